-- The devices of a domain's element, kind by kind.
use Rattle.std.proofs.Common.{◌≡◌, ℕ, List, [], ◌∷◌, ◌++◌, Bool, true, false, Option, Some, None, refl, ◌∙◌, ap, ap₂, append-nil}
use Rattle.std.specs.Prelude.{filter, map, option_map}
use Rattle.std.specs.List.{AllByRecursion}
use Rattle.std.proofs.lemmas.List.Elements.{filter-append}
use Rattle.types_base.specs.declared.domain_def.DomainDef.{DomainDef}
use Rattle.text_spec.specs.declared.vocabulary.ElementName.{ElementName}
use Rattle.text_spec.specs.declared.vocabulary.ElementName.TheVariants as element
use Rattle.text_spec.specs.DevicePrinted.{disk_tree, interface_tree}
use Rattle.text_spec.specs.DomainPrinted.{character_tree, graphics_tree, memballoon_tree, device_trees}
use Rattle.text_spec.specs.Look.{is_element}
use Rattle.text_spec.specs.Spelling.{worded, present}
use Rattle.text_spec.specs.Tree.{Tree}
use Rattle.text_laws.proofs.Lookups.{seek}

-- these, where a test says so
abbrev pub when : Bool → List Tree → List Tree
when true ts = ts
when false ts = []

pub sieved : {A : Type 0} (n : ElementName) (f : A → Tree) (b : Bool) → ((x : A) → is_element n (f x) ≡ b) → (xs : List A)
    → filter (is_element n) (map f xs) ≡ when b (map f xs)
sieved n f true is [] = refl
sieved n f true is (x ∷ xs) = rw (is x) (ap (λ ts. f x ∷ ts) (sieved n f true is xs))
sieved n f false is [] = refl
sieved n f false is (x ∷ xs) = rw (is x) (sieved n f false is xs)

pub sieved_part : {A : Type 0} (n : ElementName) (f : A → Tree) (b : Bool) → ((x : A) → is_element n (f x) ≡ b) → (part : Option A)
    → filter (is_element n) (present f part) ≡ when b (present f part)
sieved_part n f true is None = refl
sieved_part n f true is (Some x) = rw (is x)
sieved_part n f false is None = refl
sieved_part n f false is (Some x) = rw (is x)

joined : (n : ElementName) (xs ys xs' ys' : List Tree) → filter (is_element n) xs ≡ xs' → filter (is_element n) ys ≡ ys'
    → filter (is_element n) (xs ++ ys) ≡ xs' ++ ys'
joined n xs ys xs' ys' p q = filter-append (is_element n) xs ys ∙ ap₂ (λ a b. a ++ b) p q

-- which kinds of devices have this name
pub record Kinds (n : ElementName) : Type 0 where
  pub emulator : Bool
  pub emulator_is : (x : List ℕ) → is_element n (worded element.Emulator [] x) ≡ emulator
  pub disk : Bool
  pub disk_is : (x : _) → is_element n (disk_tree x) ≡ disk
  pub interface : Bool
  pub interface_is : (x : _) → is_element n (interface_tree x) ≡ interface
  pub serial : Bool
  pub serial_is : (x : _) → is_element n (character_tree element.Serial x) ≡ serial
  pub console : Bool
  pub console_is : (x : _) → is_element n (character_tree element.Console x) ≡ console
  pub graphics : Bool
  pub graphics_is : (x : _) → is_element n (graphics_tree x) ≡ graphics
  pub memballoon : Bool
  pub memballoon_is : (x : _) → is_element n (memballoon_tree x) ≡ memballoon

-- the devices of this name
pub sieved_devices : (n : ElementName) (k : Kinds n) (d : DomainDef) → filter (is_element n) (device_trees d)
    ≡ when k.emulator (present (worded element.Emulator []) d.emulator)
    ++ (when k.disk (map disk_tree d.disks)
    ++ (when k.interface (map interface_tree d.interfaces)
    ++ (when k.serial (map (character_tree element.Serial) d.serials)
    ++ (when k.console (map (character_tree element.Console) d.consoles)
    ++ (when k.graphics (map graphics_tree d.graphics) ++ when k.memballoon (present memballoon_tree d.memballoon))))))
unfolding device_trees
sieved_devices n k d =
    joined n (present (worded element.Emulator []) d.emulator) _ _ _ (sieved_part n (worded element.Emulator []) k.emulator k.emulator_is d.emulator)
    (joined n (map disk_tree d.disks) _ _ _ (sieved n disk_tree k.disk k.disk_is d.disks)
    (joined n (map interface_tree d.interfaces) _ _ _ (sieved n interface_tree k.interface k.interface_is d.interfaces)
    (joined n (map (character_tree element.Serial) d.serials) _ _ _ (sieved n (character_tree element.Serial) k.serial k.serial_is d.serials)
    (joined n (map (character_tree element.Console) d.consoles) _ _ _ (sieved n (character_tree element.Console) k.console k.console_is d.consoles)
    (joined n (map graphics_tree d.graphics) _ _ _ (sieved n graphics_tree k.graphics k.graphics_is d.graphics)
    (sieved_part n memballoon_tree k.memballoon k.memballoon_is d.memballoon))))))

module _ (d : DomainDef) where
  pub emulator_sieved : filter (is_element element.Emulator) (device_trees d) ≡ present (worded element.Emulator []) d.emulator
  unfolding is_element disk_tree interface_tree
  emulator_sieved = sieved_devices element.Emulator (record {
    emulator = true;
    emulator_is = λ x. refl;
    disk = false;
    disk_is = λ x. refl;
    interface = false;
    interface_is = λ x. refl;
    serial = false;
    serial_is = λ x. refl;
    console = false;
    console_is = λ x. refl;
    graphics = false;
    graphics_is = λ x. refl;
    memballoon = false;
    memballoon_is = λ x. refl;
  }) d ∙ append-nil (present (worded element.Emulator []) d.emulator)

  pub disks_sieved : filter (is_element element.Disk) (device_trees d) ≡ map disk_tree d.disks
  unfolding is_element disk_tree interface_tree
  disks_sieved = sieved_devices element.Disk (record {
    emulator = false;
    emulator_is = λ x. refl;
    disk = true;
    disk_is = λ x. refl;
    interface = false;
    interface_is = λ x. refl;
    serial = false;
    serial_is = λ x. refl;
    console = false;
    console_is = λ x. refl;
    graphics = false;
    graphics_is = λ x. refl;
    memballoon = false;
    memballoon_is = λ x. refl;
  }) d ∙ append-nil (map disk_tree d.disks)

  pub interfaces_sieved : filter (is_element element.Interface) (device_trees d) ≡ map interface_tree d.interfaces
  unfolding is_element disk_tree interface_tree
  interfaces_sieved = sieved_devices element.Interface (record {
    emulator = false;
    emulator_is = λ x. refl;
    disk = false;
    disk_is = λ x. refl;
    interface = true;
    interface_is = λ x. refl;
    serial = false;
    serial_is = λ x. refl;
    console = false;
    console_is = λ x. refl;
    graphics = false;
    graphics_is = λ x. refl;
    memballoon = false;
    memballoon_is = λ x. refl;
  }) d ∙ append-nil (map interface_tree d.interfaces)

  pub serials_sieved : filter (is_element element.Serial) (device_trees d) ≡ map (character_tree element.Serial) d.serials
  unfolding is_element disk_tree interface_tree
  serials_sieved = sieved_devices element.Serial (record {
    emulator = false;
    emulator_is = λ x. refl;
    disk = false;
    disk_is = λ x. refl;
    interface = false;
    interface_is = λ x. refl;
    serial = true;
    serial_is = λ x. refl;
    console = false;
    console_is = λ x. refl;
    graphics = false;
    graphics_is = λ x. refl;
    memballoon = false;
    memballoon_is = λ x. refl;
  }) d ∙ append-nil (map (character_tree element.Serial) d.serials)

  pub consoles_sieved : filter (is_element element.Console) (device_trees d) ≡ map (character_tree element.Console) d.consoles
  unfolding is_element disk_tree interface_tree
  consoles_sieved = sieved_devices element.Console (record {
    emulator = false;
    emulator_is = λ x. refl;
    disk = false;
    disk_is = λ x. refl;
    interface = false;
    interface_is = λ x. refl;
    serial = false;
    serial_is = λ x. refl;
    console = true;
    console_is = λ x. refl;
    graphics = false;
    graphics_is = λ x. refl;
    memballoon = false;
    memballoon_is = λ x. refl;
  }) d ∙ append-nil (map (character_tree element.Console) d.consoles)

  pub graphics_sieved : filter (is_element element.Graphics) (device_trees d) ≡ map graphics_tree d.graphics
  unfolding is_element disk_tree interface_tree
  graphics_sieved = sieved_devices element.Graphics (record {
    emulator = false;
    emulator_is = λ x. refl;
    disk = false;
    disk_is = λ x. refl;
    interface = false;
    interface_is = λ x. refl;
    serial = false;
    serial_is = λ x. refl;
    console = false;
    console_is = λ x. refl;
    graphics = true;
    graphics_is = λ x. refl;
    memballoon = false;
    memballoon_is = λ x. refl;
  }) d ∙ append-nil (map graphics_tree d.graphics)

  pub memballoon_sieved : filter (is_element element.Memballoon) (device_trees d) ≡ present memballoon_tree d.memballoon
  unfolding is_element disk_tree interface_tree
  memballoon_sieved = sieved_devices element.Memballoon (record {
    emulator = false;
    emulator_is = λ x. refl;
    disk = false;
    disk_is = λ x. refl;
    interface = false;
    interface_is = λ x. refl;
    serial = false;
    serial_is = λ x. refl;
    console = false;
    console_is = λ x. refl;
    graphics = false;
    graphics_is = λ x. refl;
    memballoon = true;
    memballoon_is = λ x. refl;
  }) d

-- ---- the first of those
abbrev pub first_of_list : List Tree → Option Tree
first_of_list [] = None
first_of_list (t ∷ ts) = Some t

sought_by : (n : ElementName) (t : Tree) (ts : List Tree) (b : Bool) → is_element n t ≡ b → seek n ts ≡ first_of_list (filter (is_element n) ts)
    → seek n (t ∷ ts) ≡ first_of_list (filter (is_element n) (t ∷ ts))
sought_by n t ts true e h = rw e
sought_by n t ts false e h = rw e h

pub sought : (n : ElementName) (ts : List Tree) → seek n ts ≡ first_of_list (filter (is_element n) ts)
sought n [] = refl
sought n (t ∷ ts) = sought_by n t ts (is_element n t) refl (sought n ts)

pub first_present : {A : Type 0} (f : A → Tree) (part : Option A) → first_of_list (present f part) ≡ option_map f part
first_present f None = refl
first_present f (Some x) = refl

pub all_back : {A : Type 0} (of : Tree → A) (tree : A → Tree) (P : A → Type 0) → ((x : A) → P x → of (tree x) ≡ x)
    → (xs : List A) → AllByRecursion P xs → map of (map tree xs) ≡ xs
all_back of tree P back [] all = refl
all_back of tree P back (x ∷ xs) all = ap₂ (λ y ys. y ∷ ys) (back x all.0) (all_back of tree P back xs all.1)

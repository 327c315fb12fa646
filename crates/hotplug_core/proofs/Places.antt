-- The place of a device among all devices: disks come first, and no disk has the key of an interface.
use Rattle.std.proofs.Common.{◌≡◌, ℕ, ◌+◌, ◌≤◌, Bool, true, false, not, cond, Option, None, Some, List, [], ◌∷◌, length, map, refl, sym, ap, ◌∙◌, arith, bytes_eq, nat_lt, position, option_map, length-append}
use Rattle.std.specs.List.{position_or_len, prefix_len}
use Rattle.std.proofs.Math.Dec.{eqb}
use Rattle.std.proofs.lemmas.List.Folds.{prefix_len-append}
use Rattle.std.proofs.lemmas.List.Sums.{prefix_len-le-length}
use Rattle.std.proofs.lemmas.List.{length-map}
use Rattle.std.proofs.lemmas.Bool.Decides.{nat_tests}
use Rattle.domain_spec.specs.Types.{DeviceDef, Disk, DomainDef, Interface}
use Rattle.domain_spec.specs.Types.device
use Rattle.domain_spec.specs.Devices.{devices_of, has_same_key, is_same_mac}

prefix_map : {X Y : Type 0} (p : Y → Bool) (f : X → Y) (xs : List X) → prefix_len p (map f xs) ≡ prefix_len (λ x. p (f x)) xs
prefix_map p f [] = refl
prefix_map p f (x ∷ xs) = ap (λ n. cond (p (f x)) (1 + n) 0) (prefix_map p f xs)

prefix_all : {X : Type 0} (xs : List X) → prefix_len (λ x. true) xs ≡ length xs
prefix_all [] = refl
prefix_all (x ∷ xs) = omega (arith, prefix_all xs)

-- the place after so many elements, in a list of so many
abbrev place_in : ℕ → ℕ → Option ℕ
place_in before all = cond (nat_lt before all) (Some before) None

-- where the first part is passed over whole, no element of the second one counts
first_part : (whole : Bool) (before first second : ℕ) → eqb before first ≡ whole → before ≤ first → place_in (cond whole (first + second) before) (first + second) ≡ place_in before first
first_part true before first second is le = grind (arith, nat_tests)
first_part false before first second is le = grind (arith, nat_tests)

by_test : (within : Bool) (before first second : ℕ) → nat_lt before second ≡ within → place_in (first + before) (first + second) ≡ option_map (λ n. first + n) (place_in before second)
by_test true before first second is =
    let e : nat_lt (first + before) (first + second) ≡ true = grind (arith, nat_tests) in
    rw e (rw is refl)
by_test false before first second is =
    let e : nat_lt (first + before) (first + second) ≡ false = grind (arith, nat_tests) in
    rw e (rw is refl)

second_part : (before first second : ℕ) → place_in (first + before) (first + second) ≡ option_map (λ n. first + n) (place_in before second)
second_part before first second = by_test (nat_lt before second) before first second refl

all_devices : (def : DomainDef) → length (devices_of def) ≡ length def.disks + length def.interfaces
all_devices def = simp (length-append, length-map) refl

-- how far a list of two parts is passed over, by equal numbers
abbrev over_both : ℕ → ℕ → ℕ → ℕ
over_both one first other = cond (eqb one first) (first + other) one

same_over : (a b c x y z : ℕ) → a ≡ x → b ≡ y → c ≡ z → over_both a b c ≡ over_both x y z
same_over a b c x y z e f g = cc

-- what is passed over where a disk is looked for
over_disks : (wanted : Disk) (def : DomainDef) → position_or_len (has_same_key (device.Disk wanted)) (devices_of def) ≡ over_both (position_or_len (λ d. bytes_eq wanted.target.dev d.target.dev) def.disks) (length def.disks) (length def.interfaces)
over_disks wanted def =
    let p : DeviceDef → Bool = λ d. not (has_same_key (device.Disk wanted) d) in
    prefix_len-append p (map (λ d. device.Disk d) def.disks) (map (λ i. device.Interface i) def.interfaces)
    ∙ same_over _ _ _ _ _ _ (prefix_map p (λ d. device.Disk d) def.disks) (length-map def.disks (λ d. device.Disk d)) (prefix_map p (λ i. device.Interface i) def.interfaces ∙ prefix_all def.interfaces)

-- all disks are passed over where an interface is looked for
over_all : (first other : ℕ) → over_both first first other ≡ first + other
over_all first other = grind (arith, nat_tests)

over_interfaces : (wanted : Interface) (def : DomainDef) → position_or_len (has_same_key (device.Interface wanted)) (devices_of def) ≡ length def.disks + position_or_len (λ i. is_same_mac wanted.mac i.mac) def.interfaces
over_interfaces wanted def =
    let p : DeviceDef → Bool = λ d. not (has_same_key (device.Interface wanted) d) in
    prefix_len-append p (map (λ d. device.Disk d) def.disks) (map (λ i. device.Interface i) def.interfaces)
    ∙ same_over _ _ _ _ _ _ (prefix_map p (λ d. device.Disk d) def.disks ∙ prefix_all def.disks) (length-map def.disks (λ d. device.Disk d)) (prefix_map p (λ i. device.Interface i) def.interfaces)
    ∙ over_all (length def.disks) _

disk_in : (disk : Disk) (def : DomainDef) → position (λ d. bytes_eq disk.target.dev d.target.dev) def.disks ≡ position (has_same_key (device.Disk disk)) (devices_of def)
disk_in disk def =
    let before = position_or_len (λ d. bytes_eq disk.target.dev d.target.dev) def.disks in
    sym (first_part (eqb before (length def.disks)) before (length def.disks) (length def.interfaces) refl (prefix_len-le-length _ def.disks))
    ∙ ap (λ n. place_in n (length def.disks + length def.interfaces)) (sym (over_disks disk def))
    ∙ ap (λ n. place_in (position_or_len (has_same_key (device.Disk disk)) (devices_of def)) n) (sym (all_devices def))

interface_in : (interface : Interface) (def : DomainDef) → option_map (λ n. length def.disks + n) (position (λ i. is_same_mac interface.mac i.mac) def.interfaces) ≡ position (has_same_key (device.Interface interface)) (devices_of def)
interface_in interface def =
    sym (second_part (position_or_len (λ i. is_same_mac interface.mac i.mac) def.interfaces) (length def.disks) (length def.interfaces))
    ∙ ap (λ n. place_in n (length def.disks + length def.interfaces)) (sym (over_interfaces interface def))
    ∙ ap (λ n. place_in (position_or_len (has_same_key (device.Interface interface)) (devices_of def)) n) (sym (all_devices def))

pub disk_is_at : (wanted : DeviceDef) (disk : Disk) (def : DomainDef) (disks : List Disk) (place : Option ℕ) → wanted ≡ device.Disk disk → disks ≡ def.disks → place ≡ position (λ d. bytes_eq disk.target.dev d.target.dev) disks → place ≡ position (has_same_key wanted) (devices_of def)
disk_is_at wanted disk def disks place is all at =
    at ∙ ap (λ ds. position (λ d. bytes_eq disk.target.dev d.target.dev) ds) all ∙ disk_in disk def ∙ ap (λ w. position (has_same_key w) (devices_of def)) (sym is)

pub interface_is_at : (wanted : DeviceDef) (interface : Interface) (def : DomainDef) (interfaces : List Interface) (place : Option ℕ) → wanted ≡ device.Interface interface → interfaces ≡ def.interfaces → place ≡ position (λ i. is_same_mac interface.mac i.mac) interfaces → option_map (λ n. length def.disks + n) place ≡ position (has_same_key wanted) (devices_of def)
interface_is_at wanted interface def interfaces place is all at =
    ap (λ p. option_map (λ n. length def.disks + n) p) (at ∙ ap (λ ns. position (λ i. is_same_mac interface.mac i.mac) ns) all)
    ∙ interface_in interface def ∙ ap (λ w. position (has_same_key w) (devices_of def)) (sym is)

-- The elements in a domain's that was printed.
use Rattle.std.proofs.Common.{◌≡◌, ℕ, List, [], ◌∷◌, ◌++◌, length, Bool, true, false, Option, Some, None, refl, ◌∙◌, ap, append_assoc}
use Rattle.std.specs.Prelude.{option_map, ◌==◌, if◌then◌else◌}
use Rattle.types_base.specs.declared.domain_def.DomainDef.{DomainDef}
use Rattle.types_base.specs.declared.script.Script.{Script}
use Rattle.text_spec.specs.declared.vocabulary.AttributeName.TheVariants as attribute
use Rattle.text_spec.specs.declared.vocabulary.ElementName.{ElementName}
use Rattle.text_spec.specs.declared.vocabulary.ElementName.TheVariants as element
use Rattle.text_spec.specs.DomainPrinted.{uuid_tree, script_tree, script_trees, memory_tree, vcpu_tree, os_tree, device_trees, gathered, front_trees, middle_trees, domain_children, domain_tree}
use Rattle.text_spec.specs.Look.{is_element, first_of}
use Rattle.text_spec.specs.Spelling.{pair, worded, holding, present}
use Rattle.text_spec.specs.Tree.{Tree}
use Rattle.text_spec.specs.Words.{domain_type_word, lifecycle_action_word, crash_action_word}
use Rattle.text_laws.proofs.Lookups.{seek, first_in, found, passed, passed_tree}

-- ---- the front
-- an element that is none of those before memory
pub record Behind (n : ElementName) : Type 0 where
  pub name : (x : List ℕ) → is_element n (worded element.Name [] x) ≡ false
  pub uuid : (x : List ℕ) → is_element n (uuid_tree x) ≡ false
  pub title : (x : List ℕ) → is_element n (worded element.Title [] x) ≡ false
  pub description : (x : List ℕ) → is_element n (worded element.Description [] x) ≡ false
  pub script : (x : List ℕ) → is_element n (script_tree x) ≡ false

module _ (n : ElementName) (s : Script) (rest : List Tree) where
  script_by : (b : Bool) → (length s.text == 0) ≡ b → ((x : List ℕ) → is_element n (script_tree x) ≡ false)
      → seek n (script_trees s ++ rest) ≡ seek n rest
  script_by true e apart = rw e
  script_by false e apart = rw (e, apart s.text)

  script_passed : ((x : List ℕ) → is_element n (script_tree x) ≡ false) → seek n (script_trees s ++ rest) ≡ seek n rest
  script_passed apart = script_by (length s.text == 0) refl apart

regroup : (name : Tree) (u t e s rest : List Tree) → (name ∷ u ++ (t ++ (e ++ s))) ++ rest ≡ name ∷ (u ++ (t ++ (e ++ (s ++ rest))))
regroup name u t e s rest = simp append_assoc

module _ (d : DomainDef) (rest : List Tree) where
  spread : front_trees d ++ rest
      ≡ worded element.Name [] d.name
      ∷ (present uuid_tree d.uuid
      ++ (present (worded element.Title []) d.title
      ++ (present (worded element.Description []) d.description ++ (script_trees d.guest ++ rest))))
  unfolding front_trees
  spread = regroup (worded element.Name [] d.name) (present uuid_tree d.uuid) (present (worded element.Title []) d.title)
      (present (worded element.Description []) d.description) (script_trees d.guest) rest

  pub front_passed : (n : ElementName) → Behind n → seek n (front_trees d ++ rest) ≡ seek n rest
  front_passed n b =
      let last = script_trees d.guest ++ rest in
      let described = present (worded element.Description []) d.description ++ last in
      let titled = present (worded element.Title []) d.title ++ described in
      ap (seek n) spread
      ∙ passed_tree n (worded element.Name [] d.name) (present uuid_tree d.uuid ++ titled) (b.name d.name)
      ∙ passed n uuid_tree d.uuid titled b.uuid
      ∙ passed n (worded element.Title []) d.title described b.title
      ∙ passed n (worded element.Description []) d.description last b.description
      ∙ script_passed n d.guest rest b.script

  pub name_found : seek element.Name (front_trees d ++ rest) ≡ Some (worded element.Name [] d.name)
  unfolding is_element
  name_found = ap (seek element.Name) spread

  pub uuid_found : seek element.Uuid rest ≡ None → seek element.Uuid (front_trees d ++ rest) ≡ option_map uuid_tree d.uuid
  unfolding is_element
  uuid_found none =
      let last = script_trees d.guest ++ rest in
      let described = present (worded element.Description []) d.description ++ last in
      let titled = present (worded element.Title []) d.title ++ described in
      ap (seek element.Uuid) spread
      ∙ found element.Uuid uuid_tree d.uuid titled (λ x. refl)
      (passed element.Uuid (worded element.Title []) d.title described (λ x. refl)
      ∙ passed element.Uuid (worded element.Description []) d.description last (λ x. refl)
      ∙ script_passed element.Uuid d.guest rest (λ x. refl) ∙ none)

  pub title_found : seek element.Title rest ≡ None → seek element.Title (front_trees d ++ rest) ≡ option_map (worded element.Title []) d.title
  unfolding is_element
  title_found none =
      let last = script_trees d.guest ++ rest in
      let described = present (worded element.Description []) d.description ++ last in
      let titled = present (worded element.Title []) d.title ++ described in
      ap (seek element.Title) spread
      ∙ passed element.Title uuid_tree d.uuid titled (λ x. refl)
      ∙ found element.Title (worded element.Title []) d.title described (λ x. refl)
      (passed element.Title (worded element.Description []) d.description last (λ x. refl)
      ∙ script_passed element.Title d.guest rest (λ x. refl) ∙ none)

  pub description_found : seek element.Description rest ≡ None
      → seek element.Description (front_trees d ++ rest) ≡ option_map (worded element.Description []) d.description
  unfolding is_element
  description_found none =
      let last = script_trees d.guest ++ rest in
      let described = present (worded element.Description []) d.description ++ last in
      let titled = present (worded element.Title []) d.title ++ described in
      ap (seek element.Description) spread
      ∙ passed element.Description uuid_tree d.uuid titled (λ x. refl)
      ∙ passed element.Description (worded element.Title []) d.title described (λ x. refl)
      ∙ found element.Description (worded element.Description []) d.description last (λ x. refl)
      (script_passed element.Description d.guest rest (λ x. refl) ∙ none)

  metadata_by : (b : Bool) → (length d.guest.text == 0) ≡ b → seek element.Metadata rest ≡ None
      → seek element.Metadata (script_trees d.guest ++ rest) ≡ (if b then None else Some (script_tree d.guest.text))
  unfolding is_element
  metadata_by true e none = rw e none
  metadata_by false e none = rw e

  pub metadata_found : seek element.Metadata rest ≡ None
      → seek element.Metadata (front_trees d ++ rest) ≡ (if length d.guest.text == 0 then None else Some (script_tree d.guest.text))
  unfolding is_element
  metadata_found none =
      let last = script_trees d.guest ++ rest in
      let described = present (worded element.Description []) d.description ++ last in
      let titled = present (worded element.Title []) d.title ++ described in
      ap (seek element.Metadata) spread
      ∙ passed element.Metadata uuid_tree d.uuid titled (λ x. refl)
      ∙ passed element.Metadata (worded element.Title []) d.title described (λ x. refl)
      ∙ passed element.Metadata (worded element.Description []) d.description last (λ x. refl)
      ∙ metadata_by (length d.guest.text == 0) refl none

-- ---- the whole
-- the element of the devices, where there are any
abbrev pub gathered_of : List Tree → Option Tree
gathered_of [] = None
gathered_of (t ∷ ts) = Some (holding element.Devices [] (t ∷ ts))

-- what follows the front
abbrev pub back_trees : DomainDef → List Tree
back_trees d = middle_trees d ++ gathered element.Devices (device_trees d)

module _ (d : DomainDef) where
  pub looked : (n : ElementName) → first_of n (domain_tree d) ≡ seek n (front_trees d ++ back_trees d)
  unfolding domain_tree
  looked n = first_in n element.Domain (pair attribute.Type (domain_type_word d.kind) ∷ []) [] (domain_children d)

  gathered_passed : (n : ElementName) (ts : List Tree) → ((xs : List Tree) → is_element n (holding element.Devices [] xs) ≡ false)
      → seek n (gathered element.Devices ts) ≡ None
  gathered_passed n [] apart = refl
  gathered_passed n (t ∷ ts) apart = rw (apart (t ∷ ts))

  -- none of the elements from memory on has this name
  front_only : (n : ElementName) → seek n (middle_trees d ++ gathered element.Devices (device_trees d)) ≡ seek n (gathered element.Devices (device_trees d))
      → ((xs : List Tree) → is_element n (holding element.Devices [] xs) ≡ false) → seek n (back_trees d) ≡ None
  front_only n e apart = e ∙ gathered_passed n (device_trees d) apart

  pub name_is : first_of element.Name (domain_tree d) ≡ Some (worded element.Name [] d.name)
  name_is = looked element.Name ∙ name_found d (back_trees d)

  pub uuid_is : first_of element.Uuid (domain_tree d) ≡ option_map uuid_tree d.uuid
  unfolding middle_trees os_tree is_element
  uuid_is = looked element.Uuid ∙ uuid_found d (back_trees d) (front_only element.Uuid refl (λ xs. refl))

  pub title_is : first_of element.Title (domain_tree d) ≡ option_map (worded element.Title []) d.title
  unfolding middle_trees os_tree is_element
  title_is = looked element.Title ∙ title_found d (back_trees d) (front_only element.Title refl (λ xs. refl))

  pub description_is : first_of element.Description (domain_tree d) ≡ option_map (worded element.Description []) d.description
  unfolding middle_trees os_tree is_element
  description_is = looked element.Description ∙ description_found d (back_trees d) (front_only element.Description refl (λ xs. refl))

  pub metadata_is : first_of element.Metadata (domain_tree d) ≡ (if length d.guest.text == 0 then None else Some (script_tree d.guest.text))
  unfolding middle_trees os_tree is_element
  metadata_is = looked element.Metadata ∙ metadata_found d (back_trees d) (front_only element.Metadata refl (λ xs. refl))

  pub memory_is : first_of element.Memory (domain_tree d) ≡ Some (memory_tree element.Memory d.memory)
  unfolding middle_trees is_element
  memory_is = looked element.Memory ∙ front_passed d (back_trees d) element.Memory
      (record { name = λ x. refl; uuid = λ x. refl; title = λ x. refl; description = λ x. refl; script = λ x. refl })

  pub current_memory_is : first_of element.CurrentMemory (domain_tree d) ≡ Some (memory_tree element.CurrentMemory d.current_memory)
  unfolding middle_trees is_element
  current_memory_is = looked element.CurrentMemory ∙ front_passed d (back_trees d) element.CurrentMemory
      (record { name = λ x. refl; uuid = λ x. refl; title = λ x. refl; description = λ x. refl; script = λ x. refl })

  pub vcpu_is : first_of element.Vcpu (domain_tree d) ≡ Some (vcpu_tree d.vcpus d.current_vcpus)
  unfolding middle_trees is_element
  vcpu_is = looked element.Vcpu ∙ front_passed d (back_trees d) element.Vcpu
      (record { name = λ x. refl; uuid = λ x. refl; title = λ x. refl; description = λ x. refl; script = λ x. refl })

  pub os_is : first_of element.Os (domain_tree d) ≡ Some (os_tree d.os)
  unfolding middle_trees os_tree is_element
  os_is = looked element.Os ∙ front_passed d (back_trees d) element.Os
      (record { name = λ x. refl; uuid = λ x. refl; title = λ x. refl; description = λ x. refl; script = λ x. refl })

  pub on_poweroff_is : first_of element.OnPoweroff (domain_tree d) ≡ Some (worded element.OnPoweroff [] (lifecycle_action_word d.on_poweroff))
  unfolding middle_trees os_tree is_element
  on_poweroff_is = looked element.OnPoweroff ∙ front_passed d (back_trees d) element.OnPoweroff
      (record { name = λ x. refl; uuid = λ x. refl; title = λ x. refl; description = λ x. refl; script = λ x. refl })

  pub on_reboot_is : first_of element.OnReboot (domain_tree d) ≡ Some (worded element.OnReboot [] (lifecycle_action_word d.on_reboot))
  unfolding middle_trees os_tree is_element
  on_reboot_is = looked element.OnReboot ∙ front_passed d (back_trees d) element.OnReboot
      (record { name = λ x. refl; uuid = λ x. refl; title = λ x. refl; description = λ x. refl; script = λ x. refl })

  pub on_crash_is : first_of element.OnCrash (domain_tree d) ≡ Some (worded element.OnCrash [] (crash_action_word d.on_crash))
  unfolding middle_trees os_tree is_element
  on_crash_is = looked element.OnCrash ∙ front_passed d (back_trees d) element.OnCrash
      (record { name = λ x. refl; uuid = λ x. refl; title = λ x. refl; description = λ x. refl; script = λ x. refl })

  devices_by : (ts : List Tree) → seek element.Devices (gathered element.Devices ts) ≡ gathered_of ts
  unfolding is_element
  devices_by [] = refl
  devices_by (t ∷ ts) = refl

  pub devices_is : first_of element.Devices (domain_tree d) ≡ gathered_of (device_trees d)
  unfolding middle_trees os_tree is_element
  devices_is = looked element.Devices ∙ front_passed d (back_trees d) element.Devices
      (record { name = λ x. refl; uuid = λ x. refl; title = λ x. refl; description = λ x. refl; script = λ x. refl })
      ∙ devices_by (device_trees d)

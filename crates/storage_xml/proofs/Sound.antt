-- What whole texts say of pools and volumes is sound.
use Rattle.std.proofs.Common.{◌≡◌, ℕ, ◌^◌, ◌≤◌, List, Bool, true, false, Option, Some, None, Result, Ok, refl, subst, arith}
use Rattle.std.specs.Prelude.{◌==◌, codes, option_and_then, unwrap_or, if◌then◌else◌}
use Rattle.std.proofs.lemmas.Bool.Decides.{nat_tests}
use Rattle.types_base.specs.Name.{bad_place}
use Rattle.types_base.specs.declared.storage_def.PoolDef.{PoolDef}
use Rattle.types_base.specs.declared.storage_def.PoolType.{PoolType}
use Rattle.types_base.specs.declared.storage_def.VolDef.{VolDef}
use Rattle.text_spec.specs.declared.definition.DefFault.{DefFault}
use Rattle.text_spec.specs.declared.definition.DefKind.TheVariants as kind
use Rattle.text_spec.specs.Table.{fault_of_root, root_fault}
use Rattle.text_spec.specs.Text.{most_levels, read_of}
use Rattle.text_spec.specs.Tree.{Tree}
use Rattle.text_spec.specs.Writable.{IsText}
use Rattle.text_laws.proofs.Plain.{word_value}
use Rattle.text_laws.specs.Formed.{IsFormed}
use Rattle.text_laws.specs.Given.{IsUuidOf, IsValue, IsWithin}
use Rattle.text_laws.specs.Texts.{Of}
use Rattle.xml_tables.specs.Called.{first_called, is_called, text_called, value_called}
use Rattle.xml_tables.specs.Rows.{needed, optional, then_read}
use Rattle.xml_tables.specs.Values.{name_value, size_value, uuid_value}
use Rattle.xml_tables.proofs.Found.{Formed, first_formed, text_formed, then_of, value_formed}
use Rattle.xml_tables.proofs.Identifiers.{uuid_was}
use Rattle.xml_tables.proofs.Was.{fitting_was, name_was, needed_was, optional_was, root_was, same_value, size_was, then_was}
use Rattle.storage_xml.specs.PoolText.{capacity_or_most, path_in, pool_fits, pool_in, pool_of, pool_read, pool_type_value}
use Rattle.storage_xml.specs.ReadsAs.{IsSoundPool, IsSoundVolume, ReadsAsPool, ReadsAsVolume}
use Rattle.storage_xml.specs.VolumeText.{format_in, volume_fits, volume_in, volume_of, volume_read}

-- a name of characters that a text may hold
record Named (name : List ℕ) : Type 0 where
  place : bad_place name ≡ None
  is_text : IsText name

named : (path : List ℕ) (t : Tree) (name : List ℕ) → Formed t → needed path name_value (text_called (codes "name") t) ≡ Ok name → Named name
named path t name f e =
    needed_was IsText Named path name_value
    (λ text a is was. let both = name_was text a was in subst Named both.0 (record { place = both.1; is_text = is }))
    (text_called (codes "name") t) name (text_formed (codes "name") t f) e

-- what is said of a size that was read
abbrev Small : ℕ → Type 0
Small n = n ≤ 2 ^ 60

anything : (o : Option Tree) → Of (λ t. Unit {0}) o
anything None = tt
anything (Some t) = tt

needed_small : (path : List ℕ) (o : Option Tree) (n : ℕ) → needed path size_value o ≡ Ok n → Small n
needed_small path o n e = needed_was (λ t. Unit {0}) Small path size_value (λ t a is was. size_was t a was) o n (anything o) e

optional_small : (path : List ℕ) (o : Option Tree) (n : Option ℕ) → optional path size_value o ≡ Ok n → Of Small n
optional_small path o n e = optional_was (λ t. Unit {0}) Small path size_value (λ t a is was. size_was t a was) o n (anything o) e

-- ---- pools
identified : (t : Tree) (uuid : Option (List ℕ)) → Formed t → optional (codes "/pool/uuid") uuid_value (text_called (codes "uuid") t) ≡ Ok uuid → Of (λ u. IsUuidOf (Some u)) uuid
identified t uuid f e =
    optional_was IsText (λ u. IsUuidOf (Some u)) (codes "/pool/uuid") uuid_value (λ text a is was. uuid_was text a was) (text_called (codes "uuid") t) uuid (text_formed (codes "uuid") t f) e

uuid_of : (uuid : Option (List ℕ)) → Of (λ u. IsUuidOf (Some u)) uuid → IsUuidOf uuid
uuid_of None is = tt
uuid_of (Some u) is = is

some_bytes : (n : ℕ) (b : Bool) → (n == 0) ≡ b → Small n → IsWithin 1 (2 ^ 60) (if b then 2 ^ 60 else n)
some_bytes n true e small = (omega arith, omega arith)
some_bytes n false e small = (grind (arith, nat_tests, e), small)

most_within : (capacity : Option ℕ) → Of Small capacity → IsWithin 1 (2 ^ 60) (capacity_or_most capacity)
most_within None small = (omega arith, omega arith)
most_within (Some n) small = some_bytes n (n == 0) refl small

path_formed : (t : Tree) → Formed t → Of IsText (path_in t)
unfolding path_in
path_formed t f = then_of Formed IsText (text_called (codes "path")) (λ x g. text_formed (codes "path") x g) (first_called (codes "target") t) (first_formed (codes "target") t f)

pathed : (t : Tree) (path : List ℕ) → Formed t → needed (codes "/pool/target/path") Ok (path_in t) ≡ Ok path → IsText path
pathed t path f e =
    needed_was IsText IsText (codes "/pool/target/path") Ok (λ text a is was. let same : text ≡ a = cc in subst IsText same is) (path_in t) path (path_formed t f) e

-- all that is sound of a pool but the length of its text
record GoodPool (d : PoolDef) : Type 0 where
  name : Named d.name
  uuid : IsUuidOf d.uuid
  capacity : IsWithin 1 (2 ^ 60) d.capacity
  path : IsText d.path

-- what is read after each value
abbrev after_capacity : Tree → PoolType → List ℕ → Option (List ℕ) → Option ℕ → Result PoolDef DefFault
after_capacity t k name uuid capacity =
    then_read (needed (codes "/pool/target/path") Ok (path_in t)) (λ path.
    Ok (record { kind = k; name = name; uuid = uuid; capacity = capacity_or_most capacity; path = path }))

abbrev after_uuid : Tree → PoolType → List ℕ → Option (List ℕ) → Result PoolDef DefFault
after_uuid t k name uuid = then_read (optional (codes "/pool/capacity") size_value (first_called (codes "capacity") t)) (after_capacity t k name uuid)

abbrev after_name : Tree → PoolType → List ℕ → Result PoolDef DefFault
after_name t k name = then_read (optional (codes "/pool/uuid") uuid_value (text_called (codes "uuid") t)) (after_uuid t k name)

abbrev after_type : Tree → PoolType → Result PoolDef DefFault
after_type t k = then_read (needed (codes "/pool/name") name_value (text_called (codes "name") t)) (after_name t k)

good_pool : (t : Tree) (d : PoolDef) → Formed t → pool_of t ≡ Ok d → GoodPool d
unfolding pool_of
good_pool t d f e =
    let a = then_was (needed (codes "/pool") pool_type_value (value_called (codes "type") t)) (after_type t) d e in
    let b = then_was (needed (codes "/pool/name") name_value (text_called (codes "name") t)) (after_name t a.value) d a.next_was in
    let c = then_was (optional (codes "/pool/uuid") uuid_value (text_called (codes "uuid") t)) (after_uuid t a.value b.value) d b.next_was in
    let g = then_was (optional (codes "/pool/capacity") size_value (first_called (codes "capacity") t)) (after_capacity t a.value b.value c.value) d c.next_was in
    let h = then_was (needed (codes "/pool/target/path") Ok (path_in t)) (λ path. Ok (record { kind = a.value; name = b.value; uuid = c.value; capacity = capacity_or_most g.value; path = path })) d g.next_was in
    let made : PoolDef = record { kind = a.value; name = b.value; uuid = c.value; capacity = capacity_or_most g.value; path = h.value } in
    subst GoodPool (same_value made d h.next_was) (record {
      name = named (codes "/pool/name") t b.value f b.was;
      uuid = uuid_of c.value (identified t c.value f c.was);
      capacity = most_within g.value (optional_small (codes "/pool/capacity") (first_called (codes "capacity") t) g.value g.was);
      path = pathed t h.value f h.was;
    })

pool_root : (t : Tree) (d : PoolDef) → pool_in t ≡ Ok d → pool_of t ≡ Ok d
unfolding pool_in
pool_root t d e = root_was (is_called (codes "pool") t) (pool_of t) (root_fault t) d e

pool_sound : (t : Tree) (d : PoolDef) → Formed t → pool_read t ≡ Ok d → IsSoundPool d
unfolding pool_read
pool_sound t d f e =
    let read = fitting_was (fault_of_root kind.TooLong t) pool_fits (pool_in t) d e in
    let good = good_pool t d f (pool_root t d read.was) in
    record { name = good.name.place; name_text = good.name.is_text; uuid = good.uuid; capacity = good.capacity; path = good.path; fitting = read.fitting }

formed_by : (t : Tree) → IsFormed t → Formed t
formed_by t f = record { depth = most_levels; is = f.tree }

pub read_pool_sound : ((bytes : List ℕ) (t : Tree) → read_of bytes ≡ Ok t → IsFormed t) → (text : List ℕ) → (d : PoolDef) → ReadsAsPool text d → IsSoundPool d
read_pool_sound formed text d r = pool_sound r.tree d (formed_by r.tree (formed text r.tree r.is_tree)) r.is_pool

-- ---- volumes
raw_value : IsValue (codes "raw")
raw_value = word_value _ refl

value_or : (o : Option (List ℕ)) → Of IsValue o → IsValue (unwrap_or o (codes "raw"))
value_or None is = raw_value
value_or (Some v) is = is

format_formed : (t : Tree) → Formed t → Of IsValue (format_in t)
unfolding format_in
format_formed t f =
    then_of Formed IsValue (value_called (codes "type")) (λ x g. value_formed (codes "type") x g)
    (option_and_then (first_called (codes "format")) (first_called (codes "target") t))
    (then_of Formed Formed (first_called (codes "format")) (λ x g. first_formed (codes "format") x g) (first_called (codes "target") t) (first_formed (codes "target") t f))

small_or : (o : Option ℕ) (n : ℕ) → Of Small o → Small n → Small (unwrap_or o n)
small_or None n is other = other
small_or (Some m) n is other = is

record GoodVolume (d : VolDef) : Type 0 where
  name : Named d.name
  capacity : Small d.capacity
  allocation : Small d.allocation
  format : IsValue d.format

good_volume : (t : Tree) (d : VolDef) → Formed t → volume_of t ≡ Ok d → GoodVolume d
unfolding volume_of
good_volume t d f e =
    let a = then_was _ _ d e in
    let b = then_was _ _ d a.next_was in
    let c = then_was _ _ d b.next_was in
    let capacity = needed_small (codes "/volume/capacity") (first_called (codes "capacity") t) b.value b.was in
    let made : VolDef = record { name = a.value; capacity = b.value; allocation = unwrap_or c.value b.value; format = unwrap_or (format_in t) (codes "raw") } in
    subst GoodVolume (same_value made d c.next_was) (record {
      name = named (codes "/volume/name") t a.value f a.was;
      capacity = capacity;
      allocation = small_or c.value b.value (optional_small (codes "/volume/allocation") (first_called (codes "allocation") t) c.value c.was) capacity;
      format = value_or (format_in t) (format_formed t f);
    })

volume_root : (t : Tree) (d : VolDef) → volume_in t ≡ Ok d → volume_of t ≡ Ok d
unfolding volume_in
volume_root t d e = root_was (is_called (codes "volume") t) (volume_of t) (root_fault t) d e

volume_sound : (t : Tree) (d : VolDef) → Formed t → volume_read t ≡ Ok d → IsSoundVolume d
unfolding volume_read
volume_sound t d f e =
    let read = fitting_was (fault_of_root kind.TooLong t) volume_fits (volume_in t) d e in
    let good = good_volume t d f (volume_root t d read.was) in
    record { name = good.name.place; name_text = good.name.is_text; capacity = good.capacity; allocation = good.allocation; format = good.format; fitting = read.fitting }

pub read_volume_sound : ((bytes : List ℕ) (t : Tree) → read_of bytes ≡ Ok t → IsFormed t) → (text : List ℕ) → (d : VolDef) → ReadsAsVolume text d → IsSoundVolume d
read_volume_sound formed text d r = volume_sound r.tree d (formed_by r.tree (formed text r.tree r.is_tree)) r.is_volume

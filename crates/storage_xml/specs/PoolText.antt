-- The texts of storage pools, after libvirt's storage pool format ("General metadata", "Target elements").
use Rattle.std.specs.Prelude.{ℕ, ◌^◌, ◌==◌, List, [], ◌∷◌, ◌++◌, Bool, Option, Some, None, Result, Ok, Err, option_and_then, option_map, unwrap_or, codes, if◌then◌else◌}
use Rattle.std.specs.Option.{option_to_list}
use Rattle.std.specs.Str.{bytes_eq}
use Rattle.uuid.specs.Parts.{zero_bytes}
use Rattle.types_base.specs.declared.storage_def.PoolDef.{PoolDef}
use Rattle.types_base.specs.declared.storage_def.PoolType.{PoolType}
use Rattle.types_base.specs.declared.storage_def.PoolType.TheVariants as pool
use Rattle.text_spec.specs.declared.definition.DefFault.{DefFault}
use Rattle.text_spec.specs.declared.definition.DefKind.{DefKind}
use Rattle.text_spec.specs.declared.definition.DefKind.TheVariants as kind
use Rattle.text_spec.specs.Definition.{not_too_long}
use Rattle.text_spec.specs.Spelling.{fits}
use Rattle.text_spec.specs.Table.{fault_of_root, root_fault}
use Rattle.text_spec.specs.Tree.{Tree}
use Rattle.xml_tables.specs.Called.{first_called, is_called, text_called, value_called}
use Rattle.xml_tables.specs.Spelled.{spelled, worded, worth}
use Rattle.xml_tables.specs.Rows.{needed, optional, then_read}
use Rattle.xml_tables.specs.Values.{name_value, size_tree, size_value, uuid_tree, uuid_value}

-- the most that a pool's volumes may take together, which is also what a pool has that says nothing of it
abbrev pub most_capacity : ℕ
most_capacity = 2 ^ 60

abbrev pub pool_type_value : List ℕ → Result PoolType DefKind
pool_type_value text = if bytes_eq text (codes "dir") then Ok pool.Dir else Err kind.BadValue

-- a capacity that is absent or 0 is the greatest one
abbrev pub capacity_or_most : Option ℕ → ℕ
capacity_or_most None = most_capacity
capacity_or_most (Some capacity) = if capacity == 0 then most_capacity else capacity

-- the text of the first `path` in the first `target`
unfoldable pub path_in : Tree → Option (List ℕ)
path_in t = option_and_then (text_called (codes "path")) (first_called (codes "target") t)

-- what the element of a pool says, or its first fault in the order of the table
unfoldable pub pool_of : Tree → Result PoolDef DefFault
pool_of t =
    then_read (needed (codes "/pool") pool_type_value (value_called (codes "type") t)) (λ k.
    then_read (needed (codes "/pool/name") name_value (text_called (codes "name") t)) (λ name.
    then_read (optional (codes "/pool/uuid") uuid_value (text_called (codes "uuid") t)) (λ uuid.
    then_read (optional (codes "/pool/capacity") size_value (first_called (codes "capacity") t)) (λ capacity.
    then_read (needed (codes "/pool/target/path") Ok (path_in t)) (λ path.
    Ok (record { kind = k; name = name; uuid = uuid; capacity = capacity_or_most capacity; path = path }))))))

unfoldable pub pool_in : Tree → Result PoolDef DefFault
pool_in t = if is_called (codes "pool") t then pool_of t else Err (root_fault t)

-- ---- printing
abbrev pub target_tree : List ℕ → Tree
target_tree path = spelled (codes "target") [] [] (worded (codes "path") path ∷ [])

unfoldable pub pool_tree : PoolDef → Tree
pool_tree d =
    spelled (codes "pool") (worth (codes "type") (codes "dir") ∷ []) []
    (worded (codes "name") d.name ∷ option_to_list (option_map uuid_tree d.uuid)
    ++ (size_tree (codes "capacity") d.capacity ∷ target_tree d.path ∷ []))

-- the same with an identifier
abbrev pub identified : PoolDef → PoolDef
identified d = record d { uuid = Some (unwrap_or d.uuid zero_bytes) }

-- its text, once it has an identifier, is within the limits of a text
unfoldable pub pool_fits : PoolDef → Bool
pool_fits d = fits (pool_tree (identified d))

unfoldable pub pool_read : Tree → Result PoolDef DefFault
pool_read t = not_too_long (fault_of_root kind.TooLong t) pool_fits (pool_in t)

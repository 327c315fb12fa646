-- The texts of volumes, after libvirt's storage volume format ("General metadata", "Target elements").
use Rattle.std.specs.Prelude.{ℕ, List, [], ◌∷◌, Bool, Option, Result, Ok, Err, option_and_then, unwrap_or, codes, if◌then◌else◌}
use Rattle.types_base.specs.declared.storage_def.VolDef.{VolDef}
use Rattle.text_spec.specs.declared.definition.DefFault.{DefFault}
use Rattle.text_spec.specs.declared.definition.DefKind.TheVariants as kind
use Rattle.text_spec.specs.Definition.{not_too_long}
use Rattle.text_spec.specs.Spelling.{fits}
use Rattle.text_spec.specs.Table.{fault_of_root, root_fault}
use Rattle.text_spec.specs.Tree.{Tree}
use Rattle.xml_tables.specs.Called.{first_called, is_called, text_called, value_called}
use Rattle.xml_tables.specs.Spelled.{spelled, worded, worth}
use Rattle.xml_tables.specs.Rows.{needed, optional, then_read}
use Rattle.xml_tables.specs.Values.{name_value, size_tree, size_value}

-- the type of the first `format` in the first `target`
unfoldable pub format_in : Tree → Option (List ℕ)
format_in t = option_and_then (value_called (codes "type")) (option_and_then (first_called (codes "format")) (first_called (codes "target") t))

-- what the element of a volume says, or its first fault in the order of the table: what it takes of its pool is
-- by default its capacity, and its format `raw`
unfoldable pub volume_of : Tree → Result VolDef DefFault
volume_of t =
    then_read (needed (codes "/volume/name") name_value (text_called (codes "name") t)) (λ name.
    then_read (needed (codes "/volume/capacity") size_value (first_called (codes "capacity") t)) (λ capacity.
    then_read (optional (codes "/volume/allocation") size_value (first_called (codes "allocation") t)) (λ allocation.
    Ok (record { name = name; capacity = capacity; allocation = unwrap_or allocation capacity; format = unwrap_or (format_in t) (codes "raw") }))))

unfoldable pub volume_in : Tree → Result VolDef DefFault
volume_in t = if is_called (codes "volume") t then volume_of t else Err (root_fault t)

-- ---- printing
abbrev pub format_tree : List ℕ → Tree
format_tree format = spelled (codes "format") (worth (codes "type") format ∷ []) [] []

abbrev pub target_tree : List ℕ → Tree
target_tree format = spelled (codes "target") [] [] (format_tree format ∷ [])

unfoldable pub volume_tree : VolDef → Tree
volume_tree d =
    spelled (codes "volume") [] []
    (worded (codes "name") d.name ∷ size_tree (codes "capacity") d.capacity ∷ size_tree (codes "allocation") d.allocation
    ∷ target_tree d.format ∷ [])

-- its text is within the limits of a text
unfoldable pub volume_fits : VolDef → Bool
volume_fits d = fits (volume_tree d)

unfoldable pub volume_read : Tree → Result VolDef DefFault
volume_read t = not_too_long (fault_of_root kind.TooLong t) volume_fits (volume_in t)

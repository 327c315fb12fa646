-- The values that texts are: names, identifiers, sizes of storage.
use Rattle.std.specs.Prelude.{ℕ, List, [], ◌∷◌, Option, Some, None, Result, Ok, Err, is_none, codes, if◌then◌else◌}
use Rattle.std.specs.Fmt.{decimal}
use Rattle.uuid.specs.Text.{hyphenated_text, lower, parsed}
use Rattle.types_base.specs.Name.{bad_place}
use Rattle.text_spec.specs.declared.definition.DefKind.{DefKind}
use Rattle.text_spec.specs.declared.definition.DefKind.TheVariants as kind
use Rattle.text_spec.specs.declared.size.SizeFault.{SizeFault}
use Rattle.text_spec.specs.Content.{size_kind}
use Rattle.text_spec.specs.Look.{text_of}
use Rattle.text_spec.specs.Tree.{Tree}
use Rattle.text_spec.specs.Units.{bytes_of}
use Rattle.xml_tables.specs.Called.{value_called}
use Rattle.xml_tables.specs.Spelled.{spelled, worded, worth}

-- a value that a text is known to be
abbrev pub known_value : {A : Type 0} → Option A → Result A DefKind
known_value None = Err kind.BadValue
known_value (Some value) = Ok value

abbrev pub name_value : List ℕ → Result (List ℕ) DefKind
name_value text = if is_none (bad_place text) then Ok text else Err kind.BadValue

-- an identifier in one of the forms of a UUID
abbrev pub uuid_value : List ℕ → Result (List ℕ) DefKind
uuid_value text = known_value (parsed text)

abbrev pub sized : Result ℕ SizeFault → Result ℕ DefKind
sized (Ok size) = Ok size
sized (Err fault) = Err (size_kind fault)

-- the bytes that an element says, in the unit of its attribute `unit`; without one it counts bytes
abbrev pub size_value : Tree → Result ℕ DefKind
size_value t = sized (bytes_of (text_of t) (value_called (codes "unit") t))

-- an identifier as it is printed: hyphenated, in small letters (RFC 9562)
abbrev pub uuid_tree : List ℕ → Tree
uuid_tree uuid = worded (codes "uuid") (hyphenated_text lower uuid)

-- so many bytes as they are printed
abbrev pub size_tree : List ℕ → ℕ → Tree
size_tree word bytes = spelled word (worth (codes "unit") (codes "bytes") ∷ []) (decimal bytes) []

-- Element tables: a row says where a value is, how often it occurs, and what it may be. The fault of an
-- element is the first one in the order of the rows.
use Rattle.std.specs.Prelude.{ℕ, List, [], ◌∷◌, ◌++◌, Option, Some, None, Result, Ok, Err}
use Rattle.std.specs.List.{flat_map}
use Rattle.std.specs.Option.{option_or}
use Rattle.text_spec.specs.declared.definition.DefFault.{DefFault}
use Rattle.text_spec.specs.declared.definition.DefKind.{DefKind}
use Rattle.text_spec.specs.declared.definition.DefKind.TheVariants as kind
use Rattle.text_spec.specs.declared.row.Content.{Content}
use Rattle.text_spec.specs.declared.row.Need.{Need}
use Rattle.text_spec.specs.declared.row.Need.TheVariants as need
use Rattle.text_spec.specs.declared.row.Place.{Place}
use Rattle.text_spec.specs.declared.row.Place.TheVariants as place
use Rattle.text_spec.specs.declared.row.Row.{Row}
use Rattle.text_spec.specs.declared.row.Source.{Source}
use Rattle.text_spec.specs.declared.vocabulary.ElementName.{ElementName}
use Rattle.text_spec.specs.Character.{slash}
use Rattle.text_spec.specs.Content.{content_fault}
use Rattle.text_spec.specs.Look.{elements_at, element_at, value_in, name_of}
use Rattle.text_spec.specs.Tree.{Tree}
use Rattle.text_spec.specs.Vocabulary.{element_word}

-- ---- rows
abbrev pub needed : Place → Source → Content → Row
needed p s c = record { place = p; source = s; need = need.Needed; content = c }

abbrev pub optional : Place → Source → Content → Row
optional p s c = record { place = p; source = s; need = need.Optional; content = c }

abbrev pub each : Place → Source → Content → Row
each p s c = record { place = p; source = s; need = need.Each; content = c }

-- ---- paths
-- the names of elements, each after a slash
abbrev pub path_of : List ElementName → List ℕ
path_of names = flat_map (λ n. slash ∷ element_word n) names

abbrev pub names_of : Place → List ElementName
names_of place.Here = []
names_of (place.Child n) = n ∷ []
names_of (place.Inside outer n) = outer ∷ n ∷ []

-- a fault at the element that these names lead to
abbrev pub fault_at : List ElementName → DefKind → DefFault
fault_at names k = record { path = path_of names; kind = k }

-- ---- faults
-- a value that is absent from an element that is there
abbrev pub absent_in : Need → Option DefKind
absent_in need.Needed = Some kind.Missing
absent_in need.Optional = None
absent_in need.Each = Some kind.Missing

-- an element that is absent
abbrev pub absent_at : Need → Option DefKind
absent_at need.Needed = Some kind.Missing
absent_at need.Optional = None
absent_at need.Each = None

abbrev pub value_fault : Row → Tree → Option (List ℕ) → Option DefKind
value_fault r t None = absent_in r.need
value_fault r t (Some v) = content_fault r.content t v

-- what is wrong with an element of a row
abbrev pub wrong_in : Row → Tree → Option DefKind
wrong_in r t = value_fault r t (value_in r.source t)

abbrev pub wrong_in_first : Row → Option Tree → Option DefKind
wrong_in_first r None = absent_at r.need
wrong_in_first r (Some t) = wrong_in r t

abbrev pub wrong_in_each : Row → List Tree → Option DefKind
wrong_in_each r [] = None
wrong_in_each r (t ∷ ts) = option_or (wrong_in r t) (wrong_in_each r ts)

abbrev pub wrong_by : Need → Row → Tree → Option DefKind
wrong_by need.Needed r t = wrong_in_first r (element_at r.place t)
wrong_by need.Optional r t = wrong_in_first r (element_at r.place t)
wrong_by need.Each r t = wrong_in_each r (elements_at r.place t)

-- what is wrong with a row's values in the element that its table is of
unfoldable pub wrong_at : Row → Tree → Option DefKind
wrong_at r t = wrong_by r.need r t

abbrev pub placed : List ElementName → Option DefKind → Option DefFault
placed names None = None
placed names (Some k) = Some (fault_at names k)

-- the fault of the first row that has one, in the element that these names lead to
unfoldable pub rows_fault : List ElementName → List Row → Tree → Option DefFault
rows_fault names [] t = None
rows_fault names (r ∷ rs) t = option_or (placed (names ++ names_of r.place) (wrong_at r t)) (rows_fault names rs t)

-- a fault at the root element, whichever it is
abbrev pub fault_of_root : DefKind → Tree → DefFault
fault_of_root k t = record { path = slash ∷ name_of t; kind = k }

-- another root element
abbrev pub root_fault : Tree → DefFault
root_fault t = fault_of_root kind.Root t

-- a value, unless there is a fault
abbrev pub told : {A : Type 0} → Option DefFault → A → Result A DefFault
told None v = Ok v
told (Some f) v = Err f

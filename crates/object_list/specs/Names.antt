-- The domains of the list, by rising name.
use Rattle.std.specs.Prelude.{◌≡◌, ℕ, List, [], ◌∷◌, ◌++◌, Contains, Option, None, Some}
use Rattle.std.specs.Cmp.Lexicographic.{slice_cmp}
use Rattle.std.specs.Ordering.{nat_cmp}
use Rattle.std.specs.declared.cmp.Ordering.TheVariants.{Less}
use Rattle.book_spec.specs.declared.list.Entry.{Entry}
use Rattle.book_spec.specs.Slots.{Slots, entry_in}
use Rattle.object_list.specs.declared.slot_name.SlotName.{SlotName}

-- the names come after this one, byte by byte
abbrev pub AreAfter : List ℕ → List SlotName → Type 0
AreAfter name [] = Unit {0}
AreAfter name (row ∷ rows) = (slice_cmp nat_cmp name row.name ≡ Less) × AreAfter name rows

abbrev pub IsRising : List SlotName → Type 0
IsRising [] = Unit {0}
IsRising (row ∷ rows) = AreAfter row.name rows × IsRising rows

-- the domain is in its slot
abbrev pub StandsIn : Slots → SlotName → Type 0
StandsIn slots row = (entry : Entry) × (entry_in slots row.slot ≡ Some entry) × (row.name ≡ entry.name) × (row.uuid ≡ entry.uuid)

abbrev pub AllStandIn : Slots → List SlotName → Type 0
AllStandIn slots [] = Unit {0}
AllStandIn slots (row ∷ rows) = StandsIn slots row × AllStandIn slots rows

-- each domain once, by rising name
pub record AreNames (slots : Slots) (rows : List SlotName) : Type 0 where
  pub rising : IsRising rows
  pub stand : AllStandIn slots rows
  pub all : (slot : ℕ) (entry : Entry) → entry_in slots slot ≡ Some entry → Contains rows (record { name = entry.name; uuid = entry.uuid; slot = slot })

-- the domain in a slot, if one is there
abbrev pub row_of : ℕ → Option Entry → List SlotName
row_of slot None = []
row_of slot (Some entry) = record { name = entry.name; uuid = entry.uuid; slot = slot } ∷ []

-- the domains in these slots, in this order
abbrev pub rows_of : Slots → List ℕ → List SlotName
rows_of slots [] = []
rows_of slots (slot ∷ rest) = row_of slot (entry_in slots slot) ++ rows_of slots rest

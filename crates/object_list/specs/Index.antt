-- What an index finds.
use Rattle.std.specs.Prelude.{◌≡◌, ℕ, List, bytes_eq, Option}
use Rattle.std.specs.BTreeMap.{get_by}
use Rattle.std.specs.Cmp.Lexicographic.{slice_cmp}
use Rattle.std.specs.Map.{update}
use Rattle.std.specs.Ordering.{nat_cmp}
use Rattle.object_list.specs.declared.index.SlotIndex.{SlotIndex}

-- the slot of these bytes
unfoldable pub slot_at : SlotIndex → List ℕ → Option ℕ
slot_at index bytes = get_by (λ k. slice_cmp nat_cmp bytes k.items) index.slots

-- these bytes have this slot now, or none; all others have what they had
abbrev pub Updates : List ℕ → Option ℕ → SlotIndex → SlotIndex → Type 0
Updates bytes slot old new = (other : List ℕ) → slot_at new other ≡ update bytes_eq (slot_at old) bytes slot other

abbrev pub Stays : SlotIndex → SlotIndex → Type 0
Stays old new = (other : List ℕ) → slot_at new other ≡ slot_at old other

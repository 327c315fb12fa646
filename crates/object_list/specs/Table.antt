-- The table of slots: its indexes, its free slots and its count of holders say what its rows do.
use Rattle.std.specs.Prelude.{◌≡◌, ℕ, ◌+◌, ◌<◌, ◌≤◌, ◌^◌, true, is_some, List, slice_index, slice_set, length, Option, None, Some, option_map, Result, Ok, Err}
use Rattle.book_spec.specs.declared.list.Entry.{Entry}
use Rattle.book_spec.specs.declared.list.ListCall.{ListCall}
use Rattle.book_spec.specs.declared.list.ListFault.{ListFault}
use Rattle.book_spec.specs.declared.list.ListFault.TheVariants.{Exists}
use Rattle.book_spec.specs.ListCalls.{slots_after}
use Rattle.book_spec.specs.Slots.{Slots, AreSlots, entry_in, slot_of, name_of, uuid_of, all_holders, holds_of, held_by}
use Rattle.object_list.specs.declared.index.SlotIndex.{SlotIndex}
use Rattle.object_list.specs.FreeSlots.{free_bit}
use Rattle.object_list.specs.Index.{slot_at}

-- 1 where there is nothing
abbrev pub vacancy : Option Entry → ℕ
vacancy None = 1
vacancy (Some entry) = 0

pub record IsTable (rows : Slots) (by_name by_uuid : SlotIndex) (free : List ℕ) (holders : ℕ) : Type 0 where
  pub slots : AreSlots rows
  pub names : (name : List ℕ) → slot_at by_name name ≡ slot_of name_of name rows
  pub uuids : (uuid : List ℕ) → slot_at by_uuid uuid ≡ slot_of uuid_of uuid rows
  pub vacant : (slot : ℕ) → slot < 256 → free_bit free slot ≡ vacancy (entry_in rows slot)
  pub counted : holders ≡ all_holders rows
  pub most : all_holders rows ≤ 2 ^ 62

-- the slot is free, and neither the name nor the identifier is held
pub record IsNew (slot : ℕ) (name uuid : List ℕ) (slots : Slots) : Type 0 where
  pub within : slot < length slots
  pub free : entry_in slots slot ≡ None
  pub name_is_new : slot_of name_of name slots ≡ None
  pub uuid_is_new : slot_of uuid_of uuid slots ≡ None

-- the number holds the slot
abbrev pub Holds : ℕ → ℕ → Slots → Type 0
Holds number slot slots = 0 < slice_index (holds_of number slots) slot

-- this entry, but for who holds it and what was told of it, was in the slot, which is free now
pub record GoesOut (out : Entry) (slot : ℕ) (old new : Slots) : Type 0 where
  pub entry : Entry
  pub was : entry_in old slot ≡ Some entry
  pub name_same : out.name ≡ entry.name
  pub uuid_same : out.uuid ≡ entry.uuid
  pub free : new ≡ slice_set old slot None
  pub fewer : all_holders new + 1 ≡ all_holders old

-- what was in the slot is there still, but for who holds it and what was told of it
pub record Remains (slot : ℕ) (old new : Slots) : Type 0 where
  pub entry : Entry
  pub left : Entry
  pub was : entry_in old slot ≡ Some entry
  pub name_same : left.name ≡ entry.name
  pub uuid_same : left.uuid ≡ entry.uuid
  pub stays : new ≡ slice_set old slot (Some left)
  pub fewer : all_holders new + 1 ≡ all_holders old

-- the slot of the answer is held once more
abbrev pub HoldsFound : {E : Type 0} → ℕ → Result ℕ E → Slots → Slots → Type 0
HoldsFound number (Ok slot) old new = new ≡ slice_set old slot (option_map (held_by number) (entry_in old slot))
HoldsFound number (Err e) old new = new ≡ old

-- the slots are as they are after a call that is answered so
abbrev pub TakesEffect : {E : Type 0} → ℕ → ListCall → Result ℕ E → Slots → Slots → Type 0
TakesEffect number c (Ok slot) old new = new ≡ slots_after number c (Ok slot) old
TakesEffect number c (Err e) old new = new ≡ old

-- where a claim of this answer may be out of memory: the answer names another domain, a slot was free that is taken, or
-- the holders can't be counted any more
abbrev pub MayLackMemory : Result ℕ ListFault → Slots → Type 0
MayLackMemory (Ok slot) slots = is_some (entry_in slots slot) ≡ true → 2 ^ 62 ≤ all_holders slots
MayLackMemory (Err (Exists name uuid)) slots = Unit {0}
MayLackMemory (Err other) slots = ⊥

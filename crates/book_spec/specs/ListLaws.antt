-- What every call of the list of domains keeps, and what holds and releases do to the holds of each pass.
use Rattle.std.specs.Prelude.{◌≡◌, ◌≢◌, ℕ, ◌+◌, ◌<◌, Bool, Result, Ok, slice_index, slice_set}
use Rattle.virt_types.specs.Below.types_base.declared.caller.Front.{Front}
use Rattle.book_spec.specs.declared.list.ListCall.{ListCall}
use Rattle.book_spec.specs.declared.list.ListCall.TheVariants as call
use Rattle.book_spec.specs.declared.list.ListFault.{ListFault}
use Rattle.book_spec.specs.Slots.{Slots, AreSlots, free_slots, holds_of}
use Rattle.book_spec.specs.ListCalls.{answer, slots_after, IsHold}

-- free slots are as slots have to be
abbrev pub FreeAreSlots : Type 0
FreeAreSlots = AreSlots free_slots

-- and they stay so whatever is called: no two domains get one name, or one identifier
abbrev pub SlotsStay : Type 0
SlotsStay = (number : ℕ) (c : ListCall) (slots : Slots) → AreSlots slots → AreSlots (slots_after number c (answer c slots) slots)

-- no call changes what another pass holds
abbrev pub OthersHoldTheSame : Type 0
OthersHoldTheSame = (number other : ℕ) (c : ListCall) (given : Result ℕ ListFault) (slots : Slots) → other ≢ number → holds_of other (slots_after number c given slots) ≡ holds_of other slots

-- the number holds the slot once more than before
abbrev pub HoldsMore : ℕ → ℕ → Slots → Slots → Type 0
HoldsMore number slot old new = holds_of number new ≡ slice_set (holds_of number old) slot (slice_index (holds_of number old) slot + 1)

-- a hold or a claim that gives a slot holds that slot once more, and no other
abbrev pub HoldsAdd : Type 0
HoldsAdd = (number slot : ℕ) (c : ListCall) (slots : Slots) → IsHold c → answer c slots ≡ Ok slot → HoldsMore number slot slots (slots_after number c (Ok slot) slots)

-- what it gave is held then, so that it can be released
abbrev pub GivenIsHeld : Type 0
GivenIsHeld = (number slot : ℕ) (c : ListCall) (slots : Slots) → IsHold c → answer c slots ≡ Ok slot → 0 < slice_index (holds_of number (slots_after number c (Ok slot) slots)) slot

-- a release undoes one hold: the slot was held once more before
abbrev pub ReleaseUndoes : Type 0
ReleaseUndoes = (number slot : ℕ) (front : Front) (occupied : Bool) (slots : Slots) → 0 < slice_index (holds_of number slots) slot
    → HoldsMore number slot (slots_after number (call.Release slot front occupied) (Ok slot) slots) slots

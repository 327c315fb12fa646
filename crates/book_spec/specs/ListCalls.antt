-- What each call of the list of domains answers, and what the slots are after it.
use Rattle.std.specs.Prelude.{ℕ, List, slice_set, bytes_eq, option_map, Option, None, Some, Result, Ok, Err, if◌then◌else◌}
use Rattle.virt_types.specs.Limits.{most_domains}
use Rattle.virt_types.specs.Below.types_base.declared.caller.Front.{Front}
use Rattle.book_spec.specs.declared.list.Entry.{Entry}
use Rattle.book_spec.specs.declared.list.ListCall.{ListCall}
use Rattle.book_spec.specs.declared.list.ListCall.TheVariants as call
use Rattle.book_spec.specs.declared.list.ListFault.{ListFault}
use Rattle.book_spec.specs.declared.list.ListFault.TheVariants as fault
use Rattle.book_spec.specs.Slots.{Slots, entry_in, slot_of, name_of, uuid_of, least_free_slot, new_entry, held_by, released}

-- the slot that was found, if one was
abbrev pub found : Option ℕ → Result ℕ ListFault
found None = Err fault.Absent
found (Some slot) = Ok slot

-- a domain of the name that was asked for is held in this slot: it is the one, or has another identifier
abbrev pub claim_held : List ℕ → ℕ → Option Entry → Result ℕ ListFault
claim_held uuid slot None = Err fault.Absent
claim_held uuid slot (Some entry) = if bytes_eq entry.uuid uuid then Ok slot else Err (fault.Exists entry.name entry.uuid)

-- a domain of the identifier that was asked for is held, with another name
abbrev pub claim_of_other : Option Entry → Result ℕ ListFault
claim_of_other None = Err fault.Absent
claim_of_other (Some entry) = Err (fault.Exists entry.name entry.uuid)

-- neither is held: the least free slot, if one is free
abbrev pub claim_new : Option ℕ → Result ℕ ListFault
claim_new None = Err (fault.Full most_domains)
claim_new (Some slot) = Ok slot

-- the name is tested first, then the identifier, then whether a slot is free
abbrev pub claimed : List ℕ → Slots → Option ℕ → Option ℕ → Result ℕ ListFault
claimed uuid slots (Some slot) of_uuid = claim_held uuid slot (entry_in slots slot)
claimed uuid slots None (Some slot) = claim_of_other (entry_in slots slot)
claimed uuid slots None None = claim_new (least_free_slot slots)

-- what a call is answered
unfoldable pub answer : ListCall → Slots → Result ℕ ListFault
answer (call.HoldName name) slots = found (slot_of name_of name slots)
answer (call.HoldUuid uuid) slots = found (slot_of uuid_of uuid slots)
answer (call.Claim name uuid) slots = claimed uuid slots (slot_of name_of name slots) (slot_of uuid_of uuid slots)
answer (call.Release slot front occupied) slots = Ok slot

-- what is in a slot, or else a domain that nobody holds yet
abbrev pub entry_or_new : List ℕ → List ℕ → Option Entry → Entry
entry_or_new name uuid None = new_entry name uuid
entry_or_new name uuid (Some entry) = entry

-- what a slot holds after a call of this number that was answered so
abbrev pub entry_after : ℕ → ListCall → Option Entry → Option Entry
entry_after number (call.HoldName name) old = option_map (held_by number) old
entry_after number (call.HoldUuid uuid) old = option_map (held_by number) old
entry_after number (call.Claim name uuid) old = Some (held_by number (entry_or_new name uuid old))
entry_after number (call.Release slot front occupied) old = released number front occupied old

-- the slots after a call that was answered so: the slot in the answer has changed
abbrev pub slots_after : ℕ → ListCall → Result ℕ ListFault → Slots → Slots
slots_after number call (Ok slot) slots = slice_set slots slot (entry_after number call (entry_in slots slot))
slots_after number call (Err e) slots = slots

-- the calls that make a holder more
abbrev pub IsHold : ListCall → Type 0
IsHold (call.Release slot front occupied) = ⊥
IsHold other = Unit {0}

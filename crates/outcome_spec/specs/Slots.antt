-- Which cell a request is about: the slot that one of its own marks in the list of domains gave.
use Rattle.std.specs.Prelude.{ℕ, Ok}
use Rattle.book_spec.specs.declared.list.ListCall.{ListCall}
use Rattle.outcome_spec.specs.Marks.{HasLeft}
use Rattle.outcome_spec.specs.Rows.{KnownRow}

-- the list gave this slot to the request
abbrev pub HasSlot : KnownRow → KnownRow → ListCall → ℕ → Type 0
HasSlot before after held slot = HasLeft before.list after.list (record { number = after.list.number; call = held; answer = Ok slot })

-- What the caller of a call over a domain is told.
use Rattle.std.specs.Prelude.{◌≡◌, ◌⊎◌, Option, None, Some}
use Rattle.virt_types.specs.Below.types_base.declared.caller.Front.{Front}
use Rattle.domain_spec.specs.Types.{Reply}
use Rattle.domain_obj.specs.declared.ending.Called.{Called}
use Rattle.domain_obj.specs.declared.ending.Called.TheVariants as called
use Rattle.domain_obj.specs.declared.operating.operation.Operated.{Operated}
use Rattle.domain_obj.specs.declared.operating.operation.Operated.TheVariants as operated
use Rattle.refusals.specs.Replies.{no_memory_reply, spent_reply}

-- no ticket was left, which the reply says unless there is no memory for it
abbrev pub TellsSpent : Reply → Type 0
TellsSpent said = (said ≡ spent_reply) ⊎ (said ≡ no_memory_reply)

-- what is told of a call
abbrev pub TellsCalled : Called → Reply → Type 0
TellsCalled (called.Done r place) said = said ≡ r
TellsCalled (called.TimedOut r place) said = said ≡ r
TellsCalled (called.WaitersFull r place) said = said ≡ r
TellsCalled called.NoMemory said = said ≡ no_memory_reply
TellsCalled other said = TellsSpent said

-- the place of its last mark
abbrev pub called_at : Called → Option Front
called_at (called.Done r place) = Some place
called_at (called.TimedOut r place) = Some place
called_at (called.WaitersFull r place) = Some place
called_at other = None

-- what is told of a call that begins an operation or takes one up
abbrev pub TellsOperated : Operated → Reply → Type 0
TellsOperated (operated.Ended r place) said = said ≡ r
TellsOperated (operated.Rests r place) said = said ≡ r
TellsOperated (operated.Refused r place) said = said ≡ r
TellsOperated (operated.TimedOut r place) said = said ≡ r
TellsOperated (operated.WaitersFull r place) said = said ≡ r
TellsOperated operated.NoMemory said = said ≡ no_memory_reply
TellsOperated other said = TellsSpent said

-- the place of its last mark
abbrev pub operated_at : Operated → Option Front
operated_at (operated.Ended r place) = Some place
operated_at (operated.Rests r place) = Some place
operated_at (operated.Refused r place) = Some place
operated_at (operated.TimedOut r place) = Some place
operated_at (operated.WaitersFull r place) = Some place
operated_at other = None

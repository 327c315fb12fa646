-- What the caller is told where the list gave no slot.
use Rattle.std.specs.Prelude.{◌≡◌, ◌⊎◌}
use Rattle.book_spec.specs.declared.list.ListCall.{ListCall}
use Rattle.book_spec.specs.declared.list.ListFault.{ListFault}
use Rattle.outcome_spec.specs.Listed.{list_refusal}
use Rattle.refusals.specs.Replies.{no_memory_reply}
use Rattle.virt_types.specs.Below.types_base.declared.memory.OrNoMemory.{OrNoMemory}
use Rattle.virt_types.specs.Below.types_base.declared.memory.OrNoMemory.TheVariants as or
use Rattle.virt_types.specs.declared.value.Reply.{Reply}
use Rattle.virt_types.specs.declared.value.Reply.TheVariants as reply

-- the fault is told, unless there is no memory for its text; or that the list had no memory
abbrev pub TellsFault : ListCall → OrNoMemory ListFault → Reply → Type 0
TellsFault held (or.Fault f) said = (said ≡ reply.No (list_refusal held f)) ⊎ (said ≡ no_memory_reply)
TellsFault held or.NoMemory said = said ≡ no_memory_reply

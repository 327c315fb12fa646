-- What the outcome of a task rests on, whatever the request is that asks for this slot and this task.
use Rattle.std.specs.Prelude.{◌≡◌, ◌⊎◌, ℕ, Bool, true, false, Err, Some}
use Rattle.book_spec.specs.declared.list.ListCall.{ListCall}
use Rattle.book_spec.specs.declared.list.ListFault.{ListFault}
use Rattle.list_replies.specs.Below.domain_requests.declared.task.Task.{Task}
use Rattle.list_replies.specs.Below.domain_requests.declared.task.Task.TheVariants as task
use Rattle.driver_cells.specs.OfTasks.{IsUnbuilt}
use Rattle.driver_cells.specs.OfOutcomes.{DomainPass, HasSlot, IsGiven, IsStopped, KnownRow, Outcome, StandsAt, list_refusal, pass_of}
use Rattle.virt_types.specs.Below.types_base.declared.caller.CellName.{CellName}
use Rattle.virt_types.specs.Below.types_base.declared.caller.CellName.TheVariants as cell
use Rattle.virt_types.specs.Below.types_base.declared.caller.Front.{Front}
use Rattle.virt_types.specs.declared.value.Reply.{Reply}
use Rattle.virt_types.specs.declared.value.Reply.TheVariants as reply

-- the reply is what the task gave in the domain of the slot that the list gave
pub record IsGivenIn (before after : KnownRow) (held : ListCall) (t : Task) (slot : ℕ) (front : Front) (said : Reply) : Type 0 where
  pub old : DomainPass
  pub new : DomainPass
  pub slot_is : HasSlot before after held slot
  pub pass_before : pass_of before slot ≡ Some old
  pub pass_after : pass_of after slot ≡ Some new
  pub gives : IsGiven old new t front said

-- the reply is the fault of the mark with which the list gave no slot
pub record IsRefused (before after : KnownRow) (held : ListCall) (front : Front) (said : Reply) : Type 0 where
  pub fault : ListFault
  pub stands : StandsAt before.list after.list front (record { number = after.list.number; call = held; answer = Err fault })
  pub tells : said ≡ reply.No (list_refusal held fault)

-- what a reply rests on, by the cell that the outcome names
abbrev pub TaskRestsOn : KnownRow → KnownRow → ListCall → Task → CellName → Front → Reply → Type 0
TaskRestsOn before after held t (cell.Domain slot) front said = IsGivenIn before after held t slot front said
TaskRestsOn before after held t cell.List front said = IsRefused before after held front said
TaskRestsOn before after held t other front said = ⊥

-- or the request came to no answer of a cell; or its task is not built yet
abbrev pub HasTaskOutcome : KnownRow → KnownRow → ListCall → Task → Outcome → Type 0
HasTaskOutcome before after held t o = TaskRestsOn before after held t o.cell o.front o.reply ⊎ (IsStopped after o.reply ⊎ IsUnbuilt t o.reply)

-- a query reads
abbrev pub is_query : Task → Bool
is_query (task.Read q) = true
is_query other = false

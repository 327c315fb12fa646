-- What the answer to a request rests on, by the cell that it names.
use Rattle.std.specs.Prelude.{◌≡◌, ◌⊎◌, ℕ, nat_abs, Some}
use Rattle.book_spec.specs.declared.list.ListCall.{ListCall}
use Rattle.domain_requests.specs.declared.task.Task.{Task}
use Rattle.domain_requests.specs.declared.task.Task.TheVariants as task
use Rattle.virt_types.specs.Below.types_base.declared.caller.CellName.{CellName}
use Rattle.virt_types.specs.Below.types_base.declared.caller.CellName.TheVariants as cell
use Rattle.virt_types.specs.Below.types_base.declared.caller.Front.{Front}
use Rattle.virt_types.specs.Below.types_base.declared.refusal.Refusal.{Refusal}
use Rattle.virt_types.specs.declared.request.Request.{Request}
use Rattle.virt_types.specs.declared.request.Request.TheVariants as request
use Rattle.virt_types.specs.declared.value.Reply.{Reply}
use Rattle.virt_types.specs.declared.value.Reply.TheVariants as reply
use Rattle.virt_types.specs.declared.value.Value.TheVariants as value
use Rattle.outcome_spec.specs.declared.outcome.Outcome.{Outcome}
use Rattle.outcome_spec.specs.Asked.{Asks}
use Rattle.outcome_spec.specs.Done.{IsDone}
use Rattle.outcome_spec.specs.Listed.{IsNotListed}
use Rattle.outcome_spec.specs.Lists.{IsAll, IsIdle}
use Rattle.outcome_spec.specs.Read.{IsValue}
use Rattle.outcome_spec.specs.Restored.{IsNotRestored}
use Rattle.outcome_spec.specs.Rows.{DomainPass, KnownRow, pass_of}
use Rattle.outcome_spec.specs.Shown.{IsShown}
use Rattle.outcome_spec.specs.Slots.{HasSlot}
use Rattle.outcome_spec.specs.Spent.{IsSpent, no_memory}
use Rattle.outcome_spec.specs.Titles.{IsTitles}

-- what a task gave in a domain's cell: a read its value, a call the reply of its mark
abbrev pub IsGiven : DomainPass → DomainPass → Task → Front → Reply → Type 0
IsGiven old new (task.Read q) front said = IsValue old new q front said
IsGiven old new (task.Run c) front said = IsDone old new c front said
IsGiven old new other front said = ⊥

-- the reply is of the domain in this slot, which the list gave the request
pub record IsOfDomain (before after : KnownRow) (asked : Request) (slot : ℕ) (front : Front) (said : Reply) : Type 0 where
  pub held : ListCall
  pub task : Task
  pub old : DomainPass
  pub new : DomainPass
  pub asks : Asks before after asked held task
  pub slot_is : HasSlot before after held slot
  pub pass_before : pass_of before slot ≡ Some old
  pub pass_after : pass_of after slot ≡ Some new
  pub gives : IsGiven old new task front said

-- what the list of domains answers by itself
abbrev pub IsOfList : KnownRow → KnownRow → Request → Front → Reply → Type 0
IsOfList before after request.ListAll front said = IsAll before after front said
IsOfList before after (request.ListDefinedDomains most) front said = IsIdle before after (nat_abs most) front said
IsOfList before after asked front said = (why : Refusal) × (said ≡ reply.No why) × IsNotListed before after asked front why

-- what the store answers by itself
abbrev pub IsOfStore : KnownRow → KnownRow → Request → Front → Reply → Type 0
IsOfStore before after request.Titles front said = IsTitles before after front said
IsOfStore before after (request.DomainRestore from) front said = (why : Refusal) × (said ≡ reply.No why) × IsNotRestored before after from front why
IsOfStore before after other front said = ⊥

-- an opening and a close are answered Ok
abbrev pub IsOfConnection : Request → Reply → Type 0
IsOfConnection (request.ConnectOpen name flags) said = said ≡ reply.Ok value.Nothing
IsOfConnection request.ConnectClose said = said ≡ reply.Ok value.Nothing
IsOfConnection other said = ⊥

-- no cell decides: the connection is opened or closed, or the request shows why it is refused
abbrev pub IsOfNobody : Request → Reply → Type 0
IsOfNobody asked said = IsOfConnection asked said ⊎ ((why : Refusal) × (said ≡ reply.No why) × IsShown asked why)

-- what an answer rests on, of a row before the request and at any time after it
abbrev pub RestsOn : KnownRow → KnownRow → Request → CellName → Front → Reply → Type 0
RestsOn before after asked (cell.Domain slot) front said = IsOfDomain before after asked slot front said
RestsOn before after asked cell.List front said = IsOfList before after asked front said
RestsOn before after asked cell.Store front said = IsOfStore before after asked front said
RestsOn before after asked cell.Nowhere front said = IsOfNobody asked said
RestsOn before after asked other front said = ⊥

-- the request came to no answer of a cell: a pass of the row is spent, or there was no memory
abbrev pub IsStopped : KnownRow → Reply → Type 0
IsStopped after said = (why : Refusal) × (said ≡ reply.No why) × (IsSpent after why ⊎ (why ≡ no_memory))

-- a request comes to this: its reply rests on a place of a history, or the row is spent or memory was short
abbrev pub HasOutcome : KnownRow → KnownRow → Request → Outcome → Type 0
HasOutcome before after asked o = RestsOn before after asked o.cell o.front o.reply ⊎ IsStopped after o.reply

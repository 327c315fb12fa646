-- Case: the list of domains has no slot for the request.
use Rattle.std.specs.Prelude.{◌≡◌, ℕ, List, codes, decimal, bytes_eq, Err, if◌then◌else◌}
use Rattle.book_spec.specs.declared.list.ListCall.{ListCall}
use Rattle.book_spec.specs.declared.list.ListCall.TheVariants as hold
use Rattle.book_spec.specs.declared.list.ListFault.{ListFault}
use Rattle.book_spec.specs.declared.list.ListFault.TheVariants as fault
use Rattle.domain_requests.specs.declared.task.Task.{Task}
use Rattle.domain_requests.specs.Below.session_spec.Refused.{refusal}
use Rattle.uuid.specs.Text.{hyphenated_text, lower}
use Rattle.virt_types.specs.Below.types_base.declared.caller.Front.{Front}
use Rattle.virt_types.specs.Below.types_base.declared.refusal.Refusal.{Refusal}
use Rattle.virt_types.specs.Below.types_base.declared.refusal.RefusalCode.TheVariants as code
use Rattle.virt_types.specs.declared.request.Request.{Request}
use Rattle.outcome_spec.specs.Asked.{Asks}
use Rattle.outcome_spec.specs.Marks.{StandsAt}
use Rattle.outcome_spec.specs.Rows.{KnownRow}

-- what was asked for: a name or an identifier
abbrev pub asked_for : ListCall → List ℕ
asked_for (hold.HoldName name) = name
asked_for (hold.HoldUuid uuid) = hyphenated_text lower uuid
asked_for (hold.Claim name uuid) = name
asked_for (hold.Release slot front occupied) = codes ""

-- the name that was claimed
abbrev pub claimed_name : ListCall → List ℕ
claimed_name (hold.Claim name uuid) = name
claimed_name other = codes ""

-- the refusal of a fault: kept is what was asked for; the other identifier that has the name, or the other name under
-- which the identifier is held; or the most domains
abbrev pub list_refusal : ListCall → ListFault → Refusal
list_refusal held fault.Absent = refusal code.NoDomain (asked_for held)
list_refusal held (fault.Exists name uuid) =
    refusal code.DomainExists (if bytes_eq name (claimed_name held) then hyphenated_text lower uuid else name)
list_refusal held (fault.Full count) = refusal code.ListFull (decimal count)

-- the refusal is that of this request's mark in the list
pub record IsNotListed (before after : KnownRow) (asked : Request) (front : Front) (why : Refusal) : Type 0 where
  pub held : ListCall
  pub task : Task
  pub fault : ListFault
  pub asks : Asks before after asked held task
  pub stands : StandsAt before.list after.list front (record { number = after.list.number; call = held; answer = Err fault })
  pub tells : why ≡ list_refusal held fault

-- One turn of a call that begins an operation or takes one up, until it is admitted: what it leaves of the pass.
use Rattle.std.specs.Prelude.{◌≡◌, ◌⊎◌, ◌≤◌, ℕ, List, [], ◌∷◌, is_some, true, false, Option, None, Some}
use Rattle.history_spec.specs.Chapter.{tagged}
use Rattle.virt_types.specs.Below.types_base.declared.caller.Front.{Front}
use Rattle.domain_spec.specs.Types.{Answer, Ask, Call, Reply, Transition, Who}
use Rattle.domain_spec.specs.Types.code
use Rattle.domain_spec.specs.declared.mark.HeldJobs.{HeldJobs}
use Rattle.domain_spec.specs.declared.mark.Mark.{Mark}
use Rattle.domain_spec.specs.declared.mark.Mark.TheVariants as mark
use Rattle.domain_spec.specs.declared.open.OpenOperation.{OpenOperation}
use Rattle.domain_spec.specs.Call.{begins, job_of, takes_up}
use Rattle.domain_obj.specs.Finishing.{IsClosed}
use Rattle.domain_obj.specs.InTurn.{DomainPass}
use Rattle.domain_obj.specs.Placing.{IsPlaced}
use Rattle.domain_obj.specs.Running.{Goes}
use Rattle.domain_core.specs.Celled.{CellShare}
use Rattle.domain_core.specs.Shares.{IsFree}
use Rattle.domain_obj.specs.Turned.{IsLeftNow, IsRefusedNow, waiting_as}
use Rattle.domain_obj.specs.declared.operating.entering.Entry.{Entry}
use Rattle.domain_obj.specs.declared.operating.entering.Entry.TheVariants as entry
use Rattle.domain_core.specs.OfTurns.{IsDue}
use Rattle.domain_core.specs.OfShares.{told}

-- a pass that has a ticket left may look
abbrev pub IsReadyToEnter : Who → DomainPass → Type 0
IsReadyToEnter who pass = pass.spent ≡ false → IsFree pass.share.kept who

-- the mark after its Admit by which an operation began, or was taken up
abbrev pub IsFirst : ℕ → Who → Call → Option ℕ → Mark ℕ → Type 0
IsFirst n who d boot m = ((is_some (begins d) ≡ true) × (m ≡ mark.Start n who d boot)) ⊎ ((is_some (takes_up d) ≡ true) × (m ≡ mark.TakeUp n who d))

-- both of them, of this chapter
abbrev pub begun_by : ℕ → ℕ → Who → Call → Option ℕ → Mark ℕ → List (ℕ × Mark ℕ)
begun_by chapter n who d boot first = tagged chapter (mark.Admit n who (job_of d) d boot ∷ first ∷ [])

-- the same share, with this operation or none, by which nobody waits
abbrev pub operating : Option OpenOperation → CellShare → CellShare
operating o s = record s { kept = record s.kept { waits = None; operation = o } }

-- it was admitted, and has its operation, of which a phase is due
pub record IsBegun (who : Who) (d : Call) (before after : DomainPass) : Type 0 where
  pub fresh : before.spent ≡ false
  pub chapter : ℕ
  pub boot : Option ℕ
  pub first : Mark ℕ
  pub is_first : IsFirst before.number who d boot first
  pub goes : Goes 1 (begun_by chapter before.number who d boot first) before after
  pub operation : OpenOperation
  pub due : IsDue (Some operation) before.number who
  pub closed : IsClosed after
  pub share : after.share ≡ operating (Some operation) before.share

-- it was admitted and refused, by these two marks of its pass and no others; nobody was asked
pub record IsDoneNow (who : Who) (d : Call) (before after : DomainPass) (r : Reply) (place : Front) : Type 0 where
  pub fresh : before.spent ≡ false
  pub chapter : ℕ
  pub boot : Option ℕ
  pub asks : List Ask
  pub answers : List Answer
  pub events : List Transition
  pub goes :
      Goes 1 (tagged chapter (mark.Admit before.number who (job_of d) d boot ∷ mark.Done before.number who d boot asks answers r events ∷ [])) before after
  pub none_told : told asks answers ≡ []
  pub share : after.share ≡ waiting_as None before.share
  pub placed : IsPlaced place chapter (mark.Done before.number who d boot asks answers r events) after

-- it waits
pub record IsWaiting (who : Who) (before after : DomainPass) : Type 0 where
  pub fresh : before.spent ≡ false
  pub goes : Goes 1 [] before after
  pub share : after.share ≡ waiting_as (Some who) before.share

-- what a turn leaves of the pass of a call that was not admitted before it
abbrev pub HasEntered : Who → Call → ℕ → DomainPass → DomainPass → Front → Entry → Type 0
HasEntered who d turns before after place entry.Begun = IsBegun who d before after
HasEntered who d turns before after place (entry.Done r) = IsDoneNow who d before after r place
HasEntered who d turns before after place entry.Waits = IsWaiting who before after
HasEntered who d turns before after place (entry.GaveUp held) =
    (jobs : HeldJobs) × IsRefusedNow code.OperationTimeout jobs who d before after place × (jobs.active ≡ held.active) × (jobs.op ≡ held.op) × (30 ≤ turns)
HasEntered who d turns before after place entry.WaitersFull = (jobs : HeldJobs) × IsRefusedNow code.TooManyWaiting jobs who d before after place
HasEntered who d turns before after place entry.NoMemory = IsLeftNow before after

-- What becomes of a call that begins an operation or takes one up, from its first look to its end.
use Rattle.std.specs.Prelude.{◌≡◌, ℕ, List, [], ◌∷◌, ◌++◌, Option, Some}
use Rattle.history_spec.specs.Chapter.{tagged}
use Rattle.virt_types.specs.Below.types_base.declared.caller.Front.{Front}
use Rattle.domain_spec.specs.Types.{Answer, Ask, Call, Reply, Transition, Who}
use Rattle.domain_spec.specs.Types.code
use Rattle.domain_spec.specs.declared.mark.Mark.{Mark}
use Rattle.domain_spec.specs.declared.mark.Mark.TheVariants as mark
use Rattle.domain_spec.specs.declared.open.OpenOperation.{OpenOperation}
use Rattle.domain_spec.specs.declared.step.Outcome.{Outcome}
use Rattle.domain_spec.specs.declared.step.Outcome.TheVariants as outcome
use Rattle.domain_spec.specs.Call.{job_of}
use Rattle.domain_spec.specs.Fold.{with_outcome}
use Rattle.domain_obj.specs.InTurn.{DomainPass}
use Rattle.domain_obj.specs.Placing.{IsPlaced}
use Rattle.domain_obj.specs.Refusing.{IsLeftUndone, IsRefusedSo, IsSpentWaiting}
use Rattle.domain_obj.specs.Running.{Goes, IsSpent}
use Rattle.domain_core.specs.OfTurns.{IsToldAtEnd}
use Rattle.domain_obj.specs.Called.{IsTimedOut}
use Rattle.domain_obj.specs.Entered.{IsFirst, begun_by}
use Rattle.domain_obj.specs.Phases.{IsLostAt, LeadsTo, marks_of_all, told_of_all}
use Rattle.domain_obj.specs.Phasing.{PhaseDone, phase_mark}
use Rattle.domain_obj.specs.declared.operating.operation.Operated.{Operated}
use Rattle.domain_obj.specs.declared.operating.operation.Operated.TheVariants as operated
use Rattle.domain_obj.specs.declared.operating.phases.Over.{Over}
use Rattle.domain_obj.specs.declared.operating.phases.Over.TheVariants as over
use Rattle.domain_core.specs.OfTurns.{IsDue}
use Rattle.domain_core.specs.OfShares.{told}

-- the operation of the call, as it began or was taken up
pub record IsOperation (who : Who) (d : Call) (n : ℕ) (boot : Option ℕ) (first : Mark ℕ) (o : OpenOperation) : Type 0 where
  pub is_first : IsFirst n who d boot first
  pub due : IsDue (Some o) n who

-- the operation ended: the call left its Admit, the Start or the TakeUp, an Admit and a Phase for each phase, its End, and no
-- other mark of the pass; the desk was asked just what the phases say, but for what found no memory; and what is kept for the
-- pass is what was
pub record HasEndedSo (who : Who) (d : Call) (before after : DomainPass) (report now : List (Ask × Answer)) (said : Reply) (place : Front) : Type 0 where
  pub turns : ℕ
  pub chapter : ℕ
  pub boot : Option ℕ
  pub first : Mark ℕ
  pub operation : OpenOperation
  pub is_operation : IsOperation who d before.number boot first operation
  pub phases : List PhaseDone
  pub end_chapter : ℕ
  pub last : Reply
  pub goes :
      Goes turns (begun_by chapter before.number who d boot first ++ (marks_of_all before.number who operation.call phases ++ tagged end_chapter (mark.End before.number who last ∷ []))) before after
  pub leads : LeadsTo operation.outcome phases (outcome.Over last)
  pub reported : now ≡ report ++ told_of_all phases
  pub told_so : IsToldAtEnd last said
  pub share : after.share ≡ before.share
  pub placed : IsPlaced place end_chapter (mark.End before.number who last) after

-- the operation rests: the same without an End, where the last Phase led to that
pub record RestsSo (who : Who) (d : Call) (before after : DomainPass) (report now : List (Ask × Answer)) (said : Reply) (place : Front) : Type 0 where
  pub turns : ℕ
  pub chapter : ℕ
  pub boot : Option ℕ
  pub first : Mark ℕ
  pub operation : OpenOperation
  pub is_operation : IsOperation who d before.number boot first operation
  pub earlier : List PhaseDone
  pub final : PhaseDone
  pub last : Reply
  pub goes : Goes turns (begun_by chapter before.number who d boot first ++ marks_of_all before.number who operation.call (earlier ++ final ∷ [])) before after
  pub leads : LeadsTo operation.outcome (earlier ++ final ∷ []) (outcome.Rest last)
  pub reported : now ≡ report ++ told_of_all (earlier ++ final ∷ [])
  pub told_so : IsToldAtEnd last said
  pub share : after.share ≡ before.share
  pub placed : IsPlaced place final.chapter (phase_mark before.number who final) after

-- the call was admitted and refused, by its Admit and its Done and no other mark of the pass; nobody was asked, and what is kept
-- for the pass is what was
pub record IsRefusedDone (who : Who) (d : Call) (before after : DomainPass) (report now : List (Ask × Answer)) (r : Reply) (place : Front) : Type 0 where
  pub turns : ℕ
  pub chapter : ℕ
  pub boot : Option ℕ
  pub asks : List Ask
  pub answers : List Answer
  pub events : List Transition
  pub goes :
      Goes turns (tagged chapter (mark.Admit before.number who (job_of d) d boot ∷ mark.Done before.number who d boot asks answers r events ∷ [])) before after
  pub none_told : told asks answers ≡ []
  pub reported : now ≡ report
  pub share : after.share ≡ before.share
  pub placed : IsPlaced place chapter (mark.Done before.number who d boot asks answers r events) after

-- the operation went on, and then no ticket was left: between two phases, before its End, or while a phase waited; it stays
-- open
pub record IsSpentAmid (who : Who) (d : Call) (before after : DomainPass) (report now : List (Ask × Answer)) : Type 0 where
  pub turns : ℕ
  pub chapter : ℕ
  pub boot : Option ℕ
  pub first : Mark ℕ
  pub operation : OpenOperation
  pub is_operation : IsOperation who d before.number boot first operation
  pub phases : List PhaseDone
  pub next : Outcome
  pub marks : List (ℕ × Mark ℕ)
  pub asked : List (Ask × Answer)
  pub last : DomainPass
  pub goes : Goes turns (begun_by chapter before.number who d boot first ++ (marks_of_all before.number who operation.call phases ++ marks)) before last
  pub leads : LeadsTo operation.outcome phases next
  pub lost : IsLostAt who operation before last marks asked
  pub still_open : last.share.kept.operation ≡ Some (with_outcome next operation)
  pub reported : now ≡ report ++ (told_of_all phases ++ asked)
  pub spent : IsSpent last after

-- what became of the call
abbrev pub HasOperated : Who → Call → DomainPass → DomainPass → List (Ask × Answer) → List (Ask × Answer) → Operated → Type 0
HasOperated who d before after report now (operated.Ended said place) = HasEndedSo who d before after report now said place
HasOperated who d before after report now (operated.Rests said place) = RestsSo who d before after report now said place
HasOperated who d before after report now (operated.Refused r place) = IsRefusedDone who d before after report now r place
HasOperated who d before after report now (operated.TimedOut r place) = IsTimedOut who d before after report now r place
HasOperated who d before after report now (operated.WaitersFull r place) = IsRefusedSo code.TooManyWaiting who d before after report now r place
HasOperated who d before after report now operated.NoMemory = IsLeftUndone before after report now
HasOperated who d before after report now operated.Spent = IsSpentWaiting before after report now
HasOperated who d before after report now operated.SpentAmid = IsSpentAmid who d before after report now

-- the same, by what became of its operation
abbrev pub operated_by : Over → Operated
operated_by (over.Ended said place) = operated.Ended said place
operated_by (over.Rests said place) = operated.Rests said place
operated_by over.Spent = operated.SpentAmid

-- An operation that goes on by its phases until it ends, or rests.
use Rattle.std.specs.Prelude.{◌≡◌, ◌⊎◌, ℕ, List, [], ◌∷◌, ◌++◌, Option, None, Some}
use Rattle.history_spec.specs.Chapter.{tagged}
use Rattle.virt_types.specs.Below.types_base.declared.caller.Front.{Front}
use Rattle.domain_spec.specs.Types.{Answer, Ask, Call, Reply, Who}
use Rattle.domain_spec.specs.Types.job
use Rattle.domain_spec.specs.declared.mark.Mark.{Mark}
use Rattle.domain_spec.specs.declared.mark.Mark.TheVariants as mark
use Rattle.domain_spec.specs.declared.open.OpenOperation.{OpenOperation}
use Rattle.domain_spec.specs.declared.step.Outcome.{Outcome}
use Rattle.domain_spec.specs.declared.step.Outcome.TheVariants as outcome
use Rattle.domain_spec.specs.Cell.{OpenCall}
use Rattle.domain_spec.specs.Fold.{with_outcome}
use Rattle.domain_obj.specs.Asking.{IsAsked}
use Rattle.domain_obj.specs.Finishing.{IsPhased, IsStillAway}
use Rattle.domain_obj.specs.InTurn.{DomainPass}
use Rattle.domain_obj.specs.Placing.{IsPlaced}
use Rattle.domain_obj.specs.Running.{Goes, IsSpent}
use Rattle.domain_core.specs.Celled.{CellShare}
use Rattle.domain_core.specs.OfTurns.{IsToldAtEnd}
use Rattle.domain_obj.specs.Phasing.{IsPhaseDone, PhaseDone, marks_of, phase_let_in, phase_mark}
use Rattle.domain_obj.specs.declared.operating.phases.OnePhase.{OnePhase}
use Rattle.domain_obj.specs.declared.operating.phases.OnePhase.TheVariants as one
use Rattle.domain_obj.specs.declared.operating.phases.Over.{Over}
use Rattle.domain_obj.specs.declared.operating.phases.Over.TheVariants as over
use Rattle.domain_core.specs.OfShares.{told}

-- the marks of phases, and what the desk was asked for them
abbrev pub marks_of_all : ℕ → Who → Call → List PhaseDone → List (ℕ × Mark ℕ)
marks_of_all n who d [] = []
marks_of_all n who d (p ∷ phases) = marks_of n who d p ++ marks_of_all n who d phases

abbrev pub told_of_all : List PhaseDone → List (Ask × Answer)
told_of_all [] = []
told_of_all (p ∷ phases) = told p.asks p.answers ++ told_of_all phases

-- each phase is the one that the outcome before it makes due, and the last outcome is this
abbrev pub LeadsTo : Outcome → List PhaseDone → Outcome → Type 0
LeadsTo x [] y = y ≡ x
LeadsTo x (p ∷ phases) y = (x ≡ outcome.On p.phase) × LeadsTo p.next phases y

-- the same share without an operation
abbrev pub without_operation : CellShare → CellShare
without_operation s = record s { kept = record s.kept { operation = None } }

-- no ticket was left while a phase waited for an answer: the desk was asked what the phase was told by then, and once more
pub record IsAwayAt (who : Who) (o : OpenOperation) (first last : DomainPass) (marks : List (ℕ × Mark ℕ)) (asked : List (Ask × Answer)) : Type 0 where
  pub chapter : ℕ
  pub boot : Option ℕ
  pub marks_are : marks ≡ tagged chapter (mark.Admit first.number who job.Nested o.call boot ∷ [])
  pub call : OpenCall
  pub is_open : last.share.kept.call ≡ Some call
  pub job : call.job ≡ phase_let_in first.number who o boot
  pub ask : Ask
  pub answer : Answer
  pub asks : IsAsked last ask
  pub asked_are : asked ≡ told call.asks call.answers ++ told (ask ∷ []) (answer ∷ [])

-- no ticket was left: between two phases, or while one waited
abbrev pub IsLostAt : Who → OpenOperation → DomainPass → DomainPass → List (ℕ × Mark ℕ) → List (Ask × Answer) → Type 0
IsLostAt who o first last marks asked = ((marks ≡ []) × (asked ≡ []) × (last.share.kept.call ≡ None)) ⊎ IsAwayAt who o first last marks asked

-- the call that the pass has open is a phase
pub record IsInPhase (pass : DomainPass) : Type 0 where
  pub call : OpenCall
  pub is_open : pass.share.kept.call ≡ Some call
  pub nested : call.job.job ≡ job.Nested

-- a phase that asked is done, and the desk was asked just what its Phase says, but for what found no memory; where no ticket
-- was left, it was asked once more than the phase was answered
abbrev pub HasFinishedPhase : DomainPass → DomainPass → List (Ask × Answer) → List (Ask × Answer) → OnePhase → Type 0
HasFinishedPhase before after report now (one.Phased said place) = (more : List (Ask × Answer)) × (now ≡ report ++ more) × IsPhased before after more said place
HasFinishedPhase before after report now one.Spent =
    (more : List (Ask × Answer)) × (asked : Ask) × (x : Answer) × (mid : DomainPass) × IsStillAway before mid more × IsAsked mid asked × (now ≡ report ++ (more ++ told (asked ∷ []) (x ∷ []))) × IsSpent mid after

-- no ticket was left for a phase of this operation: before it was admitted, or while it waited
pub record IsPhaseLost (who : Who) (o : OpenOperation) (before after : DomainPass) (report now : List (Ask × Answer)) : Type 0 where
  pub turns : ℕ
  pub marks : List (ℕ × Mark ℕ)
  pub asked : List (Ask × Answer)
  pub last : DomainPass
  pub goes : Goes turns marks before last
  pub lost : IsLostAt who o before last marks asked
  pub still_open : last.share.kept.operation ≡ Some o
  pub reported : now ≡ report ++ asked
  pub spent : IsSpent last after

-- one phase: it is done, and the desk was asked just what its Phase says, but for what found no memory; or no ticket was left
abbrev pub HasRunPhase : Who → OpenOperation → DomainPass → DomainPass → List (Ask × Answer) → List (Ask × Answer) → OnePhase → Type 0
HasRunPhase who o before after report now (one.Phased said place) =
    (turns : ℕ) × (p : PhaseDone) × IsPhaseDone who o turns p before after said place × (now ≡ report ++ told p.asks p.answers)
HasRunPhase who o before after report now one.Spent = IsPhaseLost who o before after report now

-- the operation ended, by its phases and its End
pub record IsEnded (who : Who) (o : OpenOperation) (before after : DomainPass) (report now : List (Ask × Answer)) (said : Reply) (place : Front) : Type 0 where
  pub turns : ℕ
  pub phases : List PhaseDone
  pub chapter : ℕ
  pub last : Reply
  pub goes : Goes turns (marks_of_all before.number who o.call phases ++ tagged chapter (mark.End before.number who last ∷ [])) before after
  pub leads : LeadsTo o.outcome phases (outcome.Over last)
  pub reported : now ≡ report ++ told_of_all phases
  pub told_so : IsToldAtEnd last said
  pub share : after.share ≡ without_operation before.share
  pub placed : IsPlaced place chapter (mark.End before.number who last) after

-- the operation rests, by its phases, the last of which led to that
pub record IsResting (who : Who) (o : OpenOperation) (before after : DomainPass) (report now : List (Ask × Answer)) (said : Reply) (place : Front) : Type 0 where
  pub turns : ℕ
  pub earlier : List PhaseDone
  pub final : PhaseDone
  pub last : Reply
  pub goes : Goes turns (marks_of_all before.number who o.call (earlier ++ final ∷ [])) before after
  pub leads : LeadsTo o.outcome (earlier ++ final ∷ []) (outcome.Rest last)
  pub reported : now ≡ report ++ told_of_all (earlier ++ final ∷ [])
  pub told_so : IsToldAtEnd last said
  pub share : after.share ≡ without_operation before.share
  pub placed : IsPlaced place final.chapter (phase_mark before.number who final) after

-- no ticket was left, after these phases: between two of them, before the End, or while a phase waited; the operation stays
-- open
pub record IsLost (who : Who) (o : OpenOperation) (before after : DomainPass) (report now : List (Ask × Answer)) : Type 0 where
  pub turns : ℕ
  pub phases : List PhaseDone
  pub marks : List (ℕ × Mark ℕ)
  pub asked : List (Ask × Answer)
  pub next : Outcome
  pub last : DomainPass
  pub goes : Goes turns (marks_of_all before.number who o.call phases ++ marks) before last
  pub leads : LeadsTo o.outcome phases next
  pub lost : IsLostAt who o before last marks asked
  pub still_open : last.share.kept.operation ≡ Some (with_outcome next o)
  pub reported : now ≡ report ++ (told_of_all phases ++ asked)
  pub spent : IsSpent last after

-- how an operation goes on of which a phase is due
abbrev pub HasRunPhases : Who → OpenOperation → DomainPass → DomainPass → List (Ask × Answer) → List (Ask × Answer) → Over → Type 0
HasRunPhases who o before after report now (over.Ended said place) = IsEnded who o before after report now said place
HasRunPhases who o before after report now (over.Rests said place) = IsResting who o before after report now said place
HasRunPhases who o before after report now over.Spent = IsLost who o before after report now

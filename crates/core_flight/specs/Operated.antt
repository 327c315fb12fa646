-- Why what the ledger leaves of an operation is what a turn of a domain may leave.
use Rattle.std.specs.Prelude.{◌≡◌, ℕ, List, [], ◌∷◌, ◌++◌, Option, None, Some}
use Rattle.domain_spec.specs.Types.{Answer, Call, Reply, State, Who}
use Rattle.domain_spec.specs.declared.core_step.CoreStep.{CoreStep}
use Rattle.domain_spec.specs.declared.core_step.CoreStep.TheVariants as step
use Rattle.domain_spec.specs.declared.mark.Mark.{Mark}
use Rattle.domain_spec.specs.declared.mark.Mark.TheVariants as mark
use Rattle.domain_spec.specs.declared.open.OpenJob.{OpenJob}
use Rattle.domain_spec.specs.declared.open.OpenOperation.{OpenOperation}
use Rattle.domain_spec.specs.declared.standing.Standing.{Standing}
use Rattle.domain_spec.specs.Call.{job_of}
use Rattle.domain_spec.specs.CanTake.{WaitsForAnswer}
use Rattle.domain_spec.specs.Cell.{Cell, standing_of}
use Rattle.domain_spec.specs.Fold.{after, lost_boot, standing}
use Rattle.domain_spec.specs.Phase.{phase_of}
use Rattle.domain_spec.specs.Legal.{IsLawful}
use Rattle.domain_spec.specs.Steps.{AnswersBy, LetsIn}
use Rattle.domain_spec.specs.Turns.{GoOn, IsOwn, MayLeave}
use Rattle.core_plan.specs.Along.{Asked}
use Rattle.core_plan.specs.Going.{first_course}
use Rattle.core_plan.specs.PhaseAway.{IsPhaseAway}
use Rattle.core_flight.specs.Turned.{admit_of}
use Rattle.core_flight.specs.Ledger.{IsDoneLawful, IsPhaseLawful, closing, phase_closing}
use Rattle.core_flight.specs.Operations.{nested_admit}

-- a beginning leaves its Admit, its Start, and then more
abbrev pub BegunIsLeft : Type 0
BegunIsLeft =
    (c : Cell) (n : ℕ) (who : Who) (d : Call) (boot : Option ℕ) (more : List (Mark ℕ))
    → (standing_of c).lost ≡ None → LetsIn c (step.BeginOp n who d) n who (job_of d) d boot
    → IsLawful (after (standing_of c) (admit_of n who d boot)) (mark.Start n who d boot)
    → GoOn c (step.BeginOp n who d) (after (after (standing_of c) (admit_of n who d boot)) (mark.Start n who d boot)) more
    → MayLeave c (step.BeginOp n who d) (admit_of n who d boot ∷ mark.Start n who d boot ∷ more)

-- a call that takes an operation up leaves its Admit, its TakeUp, and then more
abbrev pub TakenUpIsLeft : Type 0
TakenUpIsLeft =
    (c : Cell) (n : ℕ) (who : Who) (d : Call) (boot : Option ℕ) (more : List (Mark ℕ))
    → (standing_of c).lost ≡ None → LetsIn c (step.TakeUp n who d) n who (job_of d) d boot
    → IsLawful (after (standing_of c) (admit_of n who d boot)) (mark.TakeUp n who d)
    → GoOn c (step.TakeUp n who d) (after (after (standing_of c) (admit_of n who d boot)) (mark.TakeUp n who d)) more
    → MayLeave c (step.TakeUp n who d) (admit_of n who d boot ∷ mark.TakeUp n who d ∷ more)

-- any of both that is refused leaves its Admit, the marks by which it is done, and then more
abbrev pub RefusedIsLeft : Type 0
RefusedIsLeft =
    (c : Cell) (t : CoreStep ℕ) (n : ℕ) (who : Who) (d : Call) (boot : Option ℕ) (more : List (Mark ℕ))
    → (standing_of c).lost ≡ None → LetsIn c t n who (job_of d) d boot → IsOwn t n → AnswersBy c t []
    → (let s = after (standing_of c) (admit_of n who d boot) in
    let a = first_course (standing_of c).state d boot in
    IsDoneLawful s s.job n a → GoOn c t (standing s (closing s s.job n a)) more → MayLeave c t (admit_of n who d boot ∷ (closing s s.job n a ++ more)))

-- a turn goes on by the marks of a phase that is done, and then by more
abbrev pub PhaseIsLeft : Type 0
PhaseIsLeft =
    (c : Cell) (t : CoreStep ℕ) (s : Standing) (n : ℕ) (a : Asked) (more : List (Mark ℕ))
    → IsOwn t n → AnswersBy c t a.answers → IsPhaseLawful s s.operation n a → GoOn c t (standing s (phase_closing s s.operation n a)) more
    → GoOn c t s (phase_closing s s.operation n a ++ more)

-- a phase leaves its Admit, the marks by which it is done at once, and then more
abbrev pub PhaseLetInIsLeft : Type 0
PhaseLetInIsLeft =
    (c : Cell) (o : OpenOperation) (n : ℕ) (who : Who) (a : Asked) (more : List (Mark ℕ))
    → (standing_of c).operation ≡ Some o → (standing_of c).lost ≡ None → IsLawful (standing_of c) (nested_admit (standing_of c) o n who)
    → AnswersBy c (step.Phase n who) a.answers
    → (let s = after (standing_of c) (nested_admit (standing_of c) o n who) in
    IsPhaseLawful s s.operation n a → GoOn c (step.Phase n who) (standing s (phase_closing s s.operation n a)) more
    → MayLeave c (step.Phase n who) (nested_admit (standing_of c) o n who ∷ (phase_closing s s.operation n a ++ more)))

-- a phase that is away waits for an answer to its last ask
abbrev pub AwayPhaseWaits : Type 0
AwayPhaseWaits =
    (c : Cell) (j : OpenJob) (o : OpenOperation) (a : Asked) → (standing_of c).job ≡ Some j → (standing_of c).operation ≡ Some o
    → IsPhaseAway (standing_of c).state o j a → c.answers ≡ a.answers → WaitsForAnswer c (standing_of c).job

-- the end of an operation leaves its End, and then more
abbrev pub EndIsLeft : Type 0
EndIsLeft =
    (c : Cell) (n : ℕ) (who : Who) (r : Reply) (more : List (Mark ℕ))
    → IsLawful (standing_of c) (mark.End n who r) → GoOn c (step.EndOp n who) (after (standing_of c) (mark.End n who r)) more
    → MayLeave c (step.EndOp n who) (mark.End n who r ∷ more)

-- a phase whose monitor was lost, so that the end of its boot follows, tells nothing
abbrev pub LostPhaseIsSilent : Type 0
LostPhaseIsSilent =
    (s : State) (o : OpenOperation) (answers : List Answer) (boot : ℕ) → lost_boot (phase_of s o answers).state o.boot answers ≡ Some boot → (phase_of s o answers).transitions ≡ []

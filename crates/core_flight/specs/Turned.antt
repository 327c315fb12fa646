-- Why what the ledger leaves of a call is what a turn of a domain may leave.
use Rattle.std.specs.Prelude.{◌≡◌, ℕ, List, ◌∷◌, ◌++◌, replicate, Option, None, Some}
use Rattle.domain_spec.specs.Types.{Answer, Call, Who}
use Rattle.domain_spec.specs.Types.answer
use Rattle.domain_spec.specs.declared.core_step.CoreStep.{CoreStep}
use Rattle.domain_spec.specs.declared.core_step.CoreStep.TheVariants as step
use Rattle.domain_spec.specs.declared.core_step.First.{First}
use Rattle.domain_spec.specs.declared.mark.Mark.{Mark}
use Rattle.domain_spec.specs.declared.mark.Mark.TheVariants as mark
use Rattle.domain_spec.specs.declared.open.OpenJob.{OpenJob}
use Rattle.domain_spec.specs.declared.standing.Standing.{Standing}
use Rattle.domain_spec.specs.Call.{job_of}
use Rattle.domain_spec.specs.CanTake.{WaitsForAnswer}
use Rattle.domain_spec.specs.Cell.{Cell, standing_of}
use Rattle.domain_spec.specs.Fold.{after, standing}
use Rattle.domain_spec.specs.Steps.{AnswersBy, LetsIn}
use Rattle.domain_spec.specs.Turns.{GoOn, IsOwn, MayLeave}
use Rattle.core_plan.specs.Along.{Asked}
use Rattle.core_plan.specs.Starving.{starved}
use Rattle.core_plan.specs.Away.{IsAway}
use Rattle.core_plan.specs.Going.{first_course}
use Rattle.core_flight.specs.Ledger.{IsDoneLawful, closing}

-- asks that found no memory were answered so, one after the other
abbrev pub StarvedFindNone : Type 0
StarvedFindNone = (count : ℕ) (a : Asked) → (starved count a).answers ≡ a.answers ++ replicate count answer.NoMemory

-- a turn goes on by the marks of a call that is done, and then by more
abbrev pub DoneIsLeft : Type 0
DoneIsLeft =
    (c : Cell) (t : CoreStep ℕ) (s : Standing) (n : ℕ) (a : Asked) (more : List (Mark ℕ))
    → IsOwn t n → AnswersBy c t a.answers → IsDoneLawful s s.job n a → GoOn c t (standing s (closing s s.job n a)) more
    → GoOn c t s (closing s s.job n a ++ more)

-- the mark of a call that is let in
abbrev pub admit_of : ℕ → Who → Call → Option ℕ → Mark ℕ
admit_of n who d boot = mark.Admit n who (job_of d) d boot

-- a look leaves its Admit, the marks by which it is done at once, and then more
abbrev pub LetInIsLeft : Type 0
LetInIsLeft =
    (c : Cell) (n : ℕ) (who : Who) (d : Call) (first : First) (boot : Option ℕ) (count : ℕ) (more : List (Mark ℕ))
    → (standing_of c).lost ≡ None → LetsIn c (step.Look n who d first) n who (job_of d) d boot
    → (let s = after (standing_of c) (admit_of n who d boot) in
    let a = starved count (first_course (standing_of c).state d boot) in
    IsDoneLawful s s.job n a → GoOn c (step.Look n who d first) (standing s (closing s s.job n a)) more
    → MayLeave c (step.Look n who d first) (admit_of n who d boot ∷ (closing s s.job n a ++ more)))

-- a call that is away waits for an answer to its last ask
abbrev pub AwayWaits : Type 0
AwayWaits =
    (c : Cell) (j : OpenJob) (a : Asked) → (standing_of c).job ≡ Some j → IsAway (standing_of c).state (standing_of c).operation j a → c.answers ≡ a.answers
    → WaitsForAnswer c (standing_of c).job

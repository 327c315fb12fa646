-- Which marks of a turn bear the number of its pass.
use Rattle.std.specs.Prelude.{◌≡◌, ◌≢◌, ℕ, List, [], ◌∷◌, map, Some}
use Rattle.history_spec.specs.Pass.{AreOf, own}
use Rattle.domain_spec.specs.Types.{Call, RefusalCode, Who}
use Rattle.domain_spec.specs.declared.core_step.CoreStep.{CoreStep}
use Rattle.domain_spec.specs.declared.core_step.CoreStep.TheVariants as step
use Rattle.domain_spec.specs.declared.mark.HeldJobs.{HeldJobs}
use Rattle.domain_spec.specs.declared.mark.Mark.{Mark}
use Rattle.domain_spec.specs.declared.mark.Mark.TheVariants as mark
use Rattle.domain_spec.specs.Cell.{Cell, standing_of}
use Rattle.domain_spec.specs.Open.{job_held, operation_held}
use Rattle.domain_spec.specs.Turns.{IsTurn}
use Rattle.core_steps.specs.Refusing.{HasRefused}
use Rattle.core_step_laws.specs.Shares.{whose}

-- each of these marks bears this number
abbrev pub AllBear : ℕ → List (Mark ℕ) → Type 0
AllBear n [] = Unit {0}
AllBear n (m ∷ left) = (whose m ≡ Some n) × AllBear n left

-- then all of them are the number's own
abbrev pub OwnAreAll : Type 0
OwnAreAll = (n : ℕ) (left : List (Mark ℕ)) → AllBear n left → own whose n left ≡ left

-- what bears one number, or belongs to nobody, has no mark of another
abbrev pub OthersHaveNone : Type 0
OthersHaveNone = (n m : ℕ) (left : List (Mark ℕ)) → AreOf whose n left → m ≢ n → own whose m left ≡ []

-- a step that leaves no mark of a pass: a boot's end, an event, what a client takes, a chapter's end
abbrev pub LeavesNoOwn : CoreStep ℕ → Type 0
LeavesNoOwn (step.Exit boot why) = Unit {0}
LeavesNoOwn (step.Event boot e) = Unit {0}
LeavesNoOwn (step.Take n client) = Unit {0}
LeavesNoOwn (step.Rotate n who) = Unit {0}
LeavesNoOwn other = ⊥

-- so its marks belong to nobody
abbrev pub SomeLeaveNone : Type 0
SomeLeaveNone = (c : Cell) (t : CoreStep ℕ) (n : ℕ) (left : List (Mark ℕ)) → LeavesNoOwn t → IsTurn c t left → own whose n left ≡ []

-- the jobs that are held, and who waits
abbrev pub jobs_in : Cell → HeldJobs
jobs_in c = record { active = job_held (standing_of c).job; op = operation_held (standing_of c).operation; waiting = map (λ w. w.who) c.queue.callers }

-- one mark: the call was refused so
abbrev pub IsTurnedAway : ℕ → Who → Call → RefusalCode → Cell → List (Mark ℕ) → Type 0
IsTurnedAway n who d why c left = own whose n left ≡ mark.Refused n who d why (jobs_in c) ∷ []

-- the refusal of a call is its own mark
abbrev pub RefusalsAreOwn : Type 0
RefusalsAreOwn =
    (c : Cell) (t : CoreStep ℕ) (n : ℕ) (who : Who) (d : Call) (why : RefusalCode) (left : List (Mark ℕ)) → IsTurn c t left → HasRefused n who d why left
    → IsTurnedAway n who d why c left

-- A turn concerns the number of its pass alone: its marks bear that number or belong to nobody, and what the cell
-- keeps for any other number stays.
use Rattle.std.specs.Prelude.{◌≡◌, ◌≢◌, ℕ, List, [], ◌∷◌, false, Option, None, Some}
use Rattle.std.specs.List.{list_any}
use Rattle.history_spec.specs.Pass.{AreOf}
use Rattle.domain_spec.specs.declared.core_step.CoreStep.{CoreStep}
use Rattle.domain_spec.specs.declared.core_step.CoreStep.TheVariants as step
use Rattle.domain_spec.specs.declared.mark.Mark.{Mark}
use Rattle.domain_spec.specs.declared.mark.Mark.TheVariants as mark
use Rattle.domain_spec.specs.declared.open.OpenJob.{OpenJob}
use Rattle.domain_spec.specs.declared.standing.Registration.{Registration}
use Rattle.domain_spec.specs.Cell.{Cell, LentEars, as_let_in, asks_so_far, share_of, standing_of}
use Rattle.domain_spec.specs.Registrations.{is_numbered}
use Rattle.domain_spec.specs.Turns.{IsTurn, Leads}

-- the step is one of this number; a boot's end and an event are told by whoever heard them
abbrev pub IsStepOf : ℕ → CoreStep ℕ → Type 0
IsStepOf n (step.Look number who d first) = number ≡ n
IsStepOf n (step.Back number a) = number ≡ n
IsStepOf n (step.GiveUp number who d) = number ≡ n
IsStepOf n (step.BeginOp number who d) = number ≡ n
IsStepOf n (step.TakeUp number who d) = number ≡ n
IsStepOf n (step.Phase number who) = number ≡ n
IsStepOf n (step.EndOp number who) = number ≡ n
IsStepOf n (step.Watch number) = number ≡ n
IsStepOf n (step.Take number client) = number ≡ n
IsStepOf n (step.Unwatch number client) = number ≡ n
IsStepOf n (step.Rotate number who) = number ≡ n
IsStepOf n other = Unit {0}

-- the number that a mark bears; a boot's end, an event and a cut belong to nobody
abbrev pub whose : Mark ℕ → Option ℕ
whose (mark.Admit number who wanted d boot) = Some number
whose (mark.Done number who d boot asks answers r events) = Some number
whose (mark.Refused number who d why held) = Some number
whose (mark.Start number who d boot) = Some number
whose (mark.TakeUp number who d) = Some number
whose (mark.Phase number who p asks answers next events) = Some number
whose (mark.End number who r) = Some number
whose (mark.Watch number client) = Some number
whose (mark.Unwatch number client) = Some number
whose other = None

-- each mark of a turn bears the number of its step, or belongs to nobody
abbrev pub MarksAreOwn : Type 0
MarksAreOwn = (c : Cell) (t : CoreStep ℕ) (n : ℕ) (left : List (Mark ℕ)) → IsStepOf n t → IsTurn c t left → AreOf whose n left

-- no two registrations are one client's
abbrev pub AreApart : List Registration → Type 0
AreApart [] = Unit {0}
AreApart (r ∷ rs) = (list_any (is_numbered r.client) rs ≡ false) × AreApart rs

-- what ears heard is told under the number that has them out
abbrev pub IsToldBy : ℕ → CoreStep ℕ → Option LentEars → Type 0
IsToldBy n (step.Exit boot why) (Some ears) = ears.number ≡ n
IsToldBy n (step.Event boot e) (Some ears) = ears.number ≡ n
IsToldBy n t ears = Unit {0}

-- a call that is open under another number, before and after, has asked the same, and was answered the same
abbrev pub AsksStay : ℕ → Cell → Cell → Type 0
AsksStay n c d =
    (j k : OpenJob) → (standing_of c).job ≡ Some j → (standing_of d).job ≡ Some k → as_let_in k ≡ as_let_in j → j.number ≢ n
    → (d.answers ≡ c.answers) × (asks_so_far (standing_of d) k.job k d.answers ≡ asks_so_far (standing_of c) j.job j c.answers)

-- what is kept for any other number stays
abbrev pub KeepsOthers : ℕ → Cell → Cell → Type 0
KeepsOthers n c d = (m : ℕ) → m ≢ n → share_of d m ≡ share_of c m

-- a turn keeps what other numbers have
abbrev pub OthersAreKept : Type 0
OthersAreKept =
    (c d : Cell) (t : CoreStep ℕ) (n : ℕ) (left : List (Mark ℕ)) → IsStepOf n t → IsTurn c t left → Leads c t left d
    → AreApart c.registrations → IsToldBy n t c.ears → AsksStay n c d → KeepsOthers n c d

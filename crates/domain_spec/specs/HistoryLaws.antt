-- Laws of legal histories.
use Rattle.std.specs.Prelude.{◌≡◌, ℕ, ◌==◌, List, [], ◌∷◌, ◌++◌, Bool, false, Option, Some}
use Rattle.domain_spec.specs.Types.{Answer, Call, Job, Who}
use Rattle.domain_spec.specs.Types.job
use Rattle.domain_spec.specs.declared.mark.Mark.{Mark}
use Rattle.domain_spec.specs.declared.mark.Mark.TheVariants as mark
use Rattle.domain_spec.specs.declared.open.OpenJob.{OpenJob}
use Rattle.domain_spec.specs.declared.open.OpenOperation.{OpenOperation}
use Rattle.domain_spec.specs.declared.standing.Standing.{Standing}
use Rattle.domain_spec.specs.Fold.{after}
use Rattle.domain_spec.specs.Laws.{closes}
use Rattle.domain_spec.specs.Legal.{IsLawful, IsLegal}
use Rattle.domain_spec.specs.Owed.{all_transitions, owed, owed_all, owed_cut}
use Rattle.domain_spec.specs.Phase.{phase_asked}
use Rattle.domain_spec.specs.Reading.{live_boot}
use Rattle.domain_spec.specs.Sequential.{asked}

-- the first mark that closes a call bears this number, and no call is let in before it
abbrev pub IsClosedUnder : ℕ → List (Mark ℕ) → Type 0
IsClosedUnder n [] = Unit {0}
IsClosedUnder n (mark.Admit number who wanted c boot ∷ marks) = ⊥
IsClosedUnder n (mark.Done number who c boot asks answers r events ∷ marks) = number ≡ n
IsClosedUnder n (mark.Start number who c boot ∷ marks) = number ≡ n
IsClosedUnder n (mark.TakeUp number who c ∷ marks) = number ≡ n
IsClosedUnder n (mark.Phase number who p asks answers next events ∷ marks) = number ≡ n
IsClosedUnder n (m ∷ marks) = IsClosedUnder n marks

-- each call that was let in is closed under its own number
abbrev pub ClosedUnderItsNumber : Type 0
ClosedUnderItsNumber =
    (s : Standing) (number : ℕ) (who : Who) (wanted : Job) (c : Call) (boot : Option ℕ) (marks : List (Mark ℕ))
    → IsLegal s (mark.Admit number who wanted c boot ∷ marks) → IsClosedUnder number marks

-- the boot that a call carries is the live one still, or none is live as none was
pub record BootStays (s : Standing) (j : OpenJob) (m : Mark ℕ) : Type 0 where
  pub before : live_boot s.state ≡ j.boot
  pub now : live_boot (after s m).state ≡ j.boot

-- while a call's boot is live no mark but its own changes what it asks
abbrev pub AskedStays : Type 0
AskedStays =
    (s : Standing) (j : OpenJob) (m : Mark ℕ) (answers : List Answer)
    → s.job ≡ Some j → IsLawful s m → closes m ≡ false → BootStays s j m
    → asked (after s m).state j.call j.boot answers ≡ asked s.state j.call j.boot answers

-- and so it is with a phase
abbrev pub PhaseAskedStays : Type 0
PhaseAskedStays =
    (s : Standing) (j : OpenJob) (o : OpenOperation) (m : Mark ℕ) (answers : List Answer)
    → s.job ≡ Some j → j.job ≡ job.Nested → s.operation ≡ Some o → IsLawful s m → closes m ≡ false → BootStays s j m
    → phase_asked (after s m).state o answers ≡ phase_asked s.state o answers

-- a client's registration ends by this mark
abbrev pub ends_registration : ℕ → Mark ℕ → Bool
ends_registration client (mark.Unwatch number other) = other == client
ends_registration client (mark.Cut other total taken) = other == client
ends_registration client m = false

-- a client that is registered still is owed all transitions; one that left, those up to there; one that
-- was cut, the first `total` of those up to there, and its loss
pub record IsOwedExactly (client : ℕ) (marks later : List (Mark ℕ)) : Type 0 where
  pub still : owed client marks ≡ owed_all (all_transitions marks)
  pub left : (n : ℕ) → owed client (marks ++ mark.Unwatch n client ∷ later) ≡ owed_all (all_transitions marks)
  pub cut : (total taken : ℕ) → owed client (marks ++ mark.Cut client total taken ∷ later) ≡ owed_cut (all_transitions marks) total 0

-- none of these marks ends the registration
abbrev pub IsRegistered : ℕ → List (Mark ℕ) → Type 0
IsRegistered client [] = Unit {0}
IsRegistered client (m ∷ marks) = (ends_registration client m ≡ false) × IsRegistered client marks

-- what a client is owed by marks of which none ends its registration, and by one that does
abbrev pub OwedExactly : Type 0
OwedExactly = (client : ℕ) (marks later : List (Mark ℕ)) → IsRegistered client marks → IsOwedExactly client marks later

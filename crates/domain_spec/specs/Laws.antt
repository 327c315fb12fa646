-- Laws of the definitions, in their subject's own words.
use Rattle.std.specs.Prelude.{◌≡◌, ℕ, ◌+◌, ◌<◌, ◌≤◌, List, [], ◌∷◌, ◌++◌, count_by, Bool, true, false, Option, None, Some}
use Rattle.domain_spec.specs.Types.{Answer, State}
use Rattle.domain_spec.specs.declared.mark.Mark.{Mark}
use Rattle.domain_spec.specs.declared.mark.Mark.TheVariants as mark
use Rattle.domain_spec.specs.declared.open.OpenOperation.{OpenOperation}
use Rattle.domain_spec.specs.declared.progress.Progress.{Progress}
use Rattle.domain_spec.specs.declared.standing.Base.{Base}
use Rattle.domain_spec.specs.declared.standing.Standing.{Standing}
use Rattle.domain_spec.specs.declared.step.Outcome.{Outcome}
use Rattle.domain_spec.specs.declared.step.Outcome.TheVariants as outcome
use Rattle.domain_spec.specs.Fold.{after, at_base, standing}
use Rattle.domain_spec.specs.Legal.{IsLegal}
use Rattle.domain_spec.specs.Open.{IsKnownBoot}
use Rattle.domain_spec.specs.Reading.{boots_of, is_live, live_boot}
use Rattle.domain_spec.specs.WholeOperation.{is_through, whole_operation}

-- a mark that lets a call in
abbrev pub lets_in : Mark ℕ → Bool
lets_in (mark.Admit number who wanted c boot) = true
lets_in other = false

-- a mark by which a call that was let in is no more open
abbrev pub closes : Mark ℕ → Bool
closes (mark.Done number who c boot asks answers r events) = true
closes (mark.Start number who c boot) = true
closes (mark.TakeUp number who c) = true
closes (mark.Phase number who p asks answers next events) = true
closes other = false

-- a mark by which an operation begins
abbrev pub begins_operation : Mark ℕ → Bool
begins_operation (mark.Start number who c boot) = true
begins_operation other = false

-- a mark by which an operation ends
abbrev pub ends_operation : Mark ℕ → Bool
ends_operation (mark.End number who r) = true
ends_operation other = false

-- 1 where something is open, else 0
abbrev pub one_if_open : {A : Type 0} → Option A → ℕ
one_if_open None = 0
one_if_open (Some a) = 1

-- each call that was let in is closed before the next one is: at most one is open
abbrev pub OneJobAtATime : Type 0
OneJobAtATime =
    (b : Base) (marks : List (Mark ℕ)) → IsLegal (at_base b) marks
    → count_by lets_in marks ≡ count_by closes marks + one_if_open (standing (at_base b) marks).job

-- each operation ends before the next one begins: at most one is open
abbrev pub OneOperationAtATime : Type 0
OneOperationAtATime =
    (b : Base) (marks : List (Mark ℕ)) → IsLegal (at_base b) marks
    → one_if_open b.operation + count_by begins_operation marks
    ≡ count_by ends_operation marks + one_if_open (standing (at_base b) marks).operation

-- the number of boots never falls
abbrev pub BootsNeverFall : Type 0
BootsNeverFall = (s : Standing) (marks : List (Mark ℕ)) → boots_of s.state ≤ boots_of (standing s marks).state

-- a live boot has a number that was given out
abbrev pub IsCounted : Standing → Type 0
IsCounted s = IsKnownBoot (boots_of s.state) (live_boot s.state)

-- the boots that ended, in order
abbrev pub ended_boots : List (Mark ℕ) → List ℕ
ended_boots [] = []
ended_boots (mark.Exit boot why events ∷ marks) = boot ∷ ended_boots marks
ended_boots (m ∷ marks) = ended_boots marks

-- each number is above this one, and they rise
abbrev pub RiseAbove : ℕ → List ℕ → Type 0
RiseAbove low [] = Unit {0}
RiseAbove low (n ∷ ns) = (low < n) × RiseAbove n ns

-- each number is above the one before it
abbrev pub NumbersRise : List ℕ → Type 0
NumbersRise [] = Unit {0}
NumbersRise (n ∷ ns) = RiseAbove n ns

-- boots end in the order of their numbers, so none ends twice
abbrev pub EachEndsOnce : Type 0
EachEndsOnce = (b : Base) (marks : List (Mark ℕ)) → IsCounted (at_base b) → IsLegal (at_base b) marks → NumbersRise (ended_boots marks)

-- this boot, where it is not live
abbrev pub unless_live : Bool → ℕ → List ℕ
unless_live true boot = []
unless_live false boot = boot ∷ []

-- a boot that is live now and was not before
abbrev pub made_in : State → Option ℕ → List ℕ
made_in before None = []
made_in before (Some boot) = unless_live (is_live before boot) boot

-- the boots that a history makes, in order
abbrev pub boots_made : Standing → List (Mark ℕ) → List ℕ
boots_made s [] = []
boots_made s (m ∷ marks) = made_in s.state (live_boot (after s m).state) ++ boots_made (after s m) marks

-- each boot that a history makes has a number above all that were given out before it, so none
-- comes twice and none that has ended comes again
abbrev pub BootsAreNew : Type 0
BootsAreNew = (s : Standing) (marks : List (Mark ℕ)) → IsCounted s → RiseAbove (boots_of s.state) (boots_made s marks)

-- the due phase waits for an answer
abbrev pub WaitsAt : Progress → Outcome → Type 0
WaitsAt at (outcome.Over r) = Unit {0}
WaitsAt at (outcome.Rest r) = Unit {0}
WaitsAt at (outcome.On p) = is_through at ≡ false

-- the operation is over, or its due phase waits for an answer
abbrev pub IsOverOrWaits : Progress → Type 0
IsOverOrWaits at = WaitsAt at at.operation.outcome

-- a whole operation stops only where it is over or waits for one more answer
abbrev pub OperationsGoOn : Type 0
OperationsGoOn = (s : State) (o : OpenOperation) (answers : List Answer) → IsOverOrWaits (whole_operation s o answers)

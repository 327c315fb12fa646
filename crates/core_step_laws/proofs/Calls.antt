-- A call that is open stays so in each turn but its own.
use Rattle.std.proofs.Common.{◌≡◌, ℕ, ◌==◌, List, [], ◌∷◌, Bool, true, false, Option, None, Some, if◌then◌else◌, refl, sym, ap, ◌∙◌, subst, arith}
use Rattle.std.proofs.lemmas.Bool.Decides.{nat_tests}
use Rattle.domain_spec.specs.declared.core_step.CoreStep.{CoreStep}
use Rattle.domain_spec.specs.declared.core_step.CoreStep.TheVariants as step
use Rattle.domain_spec.specs.declared.mark.Mark.{Mark}
use Rattle.domain_spec.specs.declared.mark.Mark.TheVariants as mark
use Rattle.domain_spec.specs.declared.open.OpenJob.{OpenJob}
use Rattle.domain_spec.specs.declared.standing.Standing.{Standing}
use Rattle.domain_spec.specs.Cell.{Cell, as_let_in, standing_of}
use Rattle.domain_spec.specs.Fold.{after, standing}
use Rattle.domain_spec.specs.Turns.{BeginsBy, GoOn, GoesOnBy, IsOwn, IsTurn, Leads, MayLeave}
use Rattle.core_step_laws.specs.Calls.{CallsStay, IsStill}
use Rattle.core_step_laws.proofs.Jobs.{done_stays, exit_seen, lets_in_free, on_base, phase_stays, seen_of, start_stays, take_up_stays}

-- a number whose step this is not
not_of : (t : CoreStep ℕ) (m number : ℕ) → (IsOwn t m → ⊥) → IsOwn t number → number ≡ m → ⊥
not_of t m number other own e = other (subst (λ (k : ℕ). IsOwn t k) e own)

goes_seen : (c : Cell) (t : CoreStep ℕ) (m : ℕ) (s : Standing) (k : Mark ℕ) → (IsOwn t m → ⊥) → GoesOnBy c t s k → seen_of m (after s k).job ≡ seen_of m s.job
goes_seen c t m s (mark.Done number who d boot asks answers r events) other h =
    (done_stays m s s.job number who d boot asks answers r events refl h.2 (not_of t m number other h.0)).job
goes_seen c t m s (mark.Phase number who p asks answers next events) other h =
    (phase_stays m s s.job s.operation number who p asks answers next events refl refl h.2 (not_of t m number other h.0)).job
goes_seen c t m s (mark.Start number who d boot) other h = (start_stays m s s.job number who d boot refl h.1 (not_of t m number other h.0)).job
goes_seen c t m s (mark.TakeUp number who d) other h = (take_up_stays m s s.job s.operation number who d refl refl h.1 (not_of t m number other h.0)).job
goes_seen c t m s (mark.Exit boot why events) other h = exit_seen m s.state boot s.job
goes_seen c t m s (mark.Event boot g events) other h = refl
goes_seen c t m s (mark.Cut client total taken) other h = refl
goes_seen c t m s k other h = absurd h

on_seen : (c : Cell) (t : CoreStep ℕ) (m : ℕ) (s : Standing) (marks : List (Mark ℕ)) → (IsOwn t m → ⊥) → GoOn c t s marks → seen_of m (standing s marks).job ≡ seen_of m s.job
on_seen c t m s [] other h = refl
on_seen c t m s (k ∷ marks) other h = on_seen c t m (after s k) marks other h.2 ∙ goes_seen c t m s k other h.0

begins_seen : (c : Cell) (t : CoreStep ℕ) (k : Mark ℕ) (j : OpenJob) → (standing_of c).job ≡ Some j → (IsOwn t j.number → ⊥) → BeginsBy c t (standing_of c) k
    → seen_of j.number (after (standing_of c) k).job ≡ seen_of j.number (standing_of c).job
begins_seen c t (mark.Admit number w wanted d boot) j was other h = let none : (standing_of c).job ≡ None = lets_in_free c t number w wanted d boot h in cc
begins_seen c t (mark.Refused number w d why held) j was other h = refl
begins_seen c t (mark.End number w r) j was other h = refl
begins_seen c t (mark.Watch number client) j was other h = refl
begins_seen c t (mark.Unwatch number client) j was other h = refl
begins_seen c t k j was other h = goes_seen c t j.number (standing_of c) k other h

left_seen : (c : Cell) (t : CoreStep ℕ) (marks : List (Mark ℕ)) (j : OpenJob) → (standing_of c).job ≡ Some j → (IsOwn t j.number → ⊥) → MayLeave c t marks
    → seen_of j.number (standing (standing_of c) marks).job ≡ seen_of j.number (standing_of c).job
left_seen c t [] j was other h = refl
left_seen c t (k ∷ marks) j was other h =
    on_seen c t j.number (after (standing_of c) k) marks other h.2 ∙ begins_seen c t k j was other h.0

-- what is seen of it under its own number

same_number : (n : ℕ) (b : Bool) → (n == n) ≡ b → b ≡ true
same_number n true e = refl
same_number n false e = grind (arith, nat_tests, e)

seen_own : (j : OpenJob) → seen_of j.number (Some j) ≡ Some (as_let_in j)
seen_own j = ap (λ (b : Bool). if b then Some (as_let_in j) else None) (same_number j.number (j.number == j.number) refl)

seen_if : (b : Bool) (j k : OpenJob) → (if b then Some (as_let_in k) else None) ≡ Some (as_let_in j) → as_let_in k ≡ as_let_in j
seen_if true j k e = cc
seen_if false j k e = cc

still_by : (j : OpenJob) (k : Option OpenJob) → seen_of j.number k ≡ Some (as_let_in j) → IsStill j k
still_by j None e = cc
still_by j (Some k) e = seen_if (k.number == j.number) j k e

pub calls_stay : CallsStay
calls_stay c d (step.Rotate number who) left j turn leads was other = let free : (standing_of c).job ≡ None = turn.can.1 in cc
calls_stay c d t left j turn leads was other =
    let is : standing_of d ≡ standing (standing_of c) left = on_base c d left leads.base leads.marks in
    still_by j (standing_of d).job
    (ap (λ (s : Standing). seen_of j.number s.job) is ∙ left_seen c t left j was other turn.left ∙ ap (λ (x : Option OpenJob). seen_of j.number x) was ∙ seen_own j)

-- What the marks of a turn leave of the open call and the operation.
use Rattle.std.proofs.Common.{◌≡◌, ℕ, List, [], ◌∷◌, Bool, true, false, not, ◌&&◌, Option, None, Some, refl, ap, ◌∙◌, subst}
use Rattle.domain_spec.specs.Types.{Answer, Ask, Call, OpKind, Phase, Reply, Transition, Who}
use Rattle.domain_spec.specs.declared.core_step.CoreStep.{CoreStep}
use Rattle.domain_spec.specs.declared.core_step.CoreStep.TheVariants as step
use Rattle.domain_spec.specs.declared.mark.Mark.{Mark}
use Rattle.domain_spec.specs.declared.mark.Mark.TheVariants as mark
use Rattle.domain_spec.specs.declared.open.OpenJob.{OpenJob}
use Rattle.domain_spec.specs.declared.open.OpenOperation.{OpenOperation}
use Rattle.domain_spec.specs.declared.standing.Standing.{Standing}
use Rattle.domain_spec.specs.declared.step.Outcome.{Outcome}
use Rattle.domain_spec.specs.Call.{takes_up}
use Rattle.domain_spec.specs.Cell.{Cell, standing_of}
use Rattle.domain_spec.specs.Fold.{after, after_phase, after_take_up, job_at_exit, standing}
use Rattle.domain_spec.specs.Lawful.{IsDone, IsPhased, IsStarted, IsTakenUp}
use Rattle.domain_spec.specs.Open.{operation_held}
use Rattle.domain_spec.specs.Sequential.{meets_ended}
use Rattle.domain_spec.specs.TakeUp.{rests_for}
use Rattle.domain_spec.specs.Turns.{GoOn, GoesOnBy, MayLeave}
use Rattle.core_steps.specs.Phased.{HasLedTo}
use Rattle.core_steps.specs.Turning.{HasDone}

-- while no call is open

-- none is open, and the operation is as it was
pub record IsFree (s t : Standing) : Type 0 where
  pub job : t.job ≡ None
  pub operation : t.operation ≡ s.operation

free_then : (s t u : Standing) → t.operation ≡ s.operation → IsFree t u → IsFree s u
free_then s t u same h = record { job = h.job; operation = h.operation ∙ same }

goes_free : (c : Cell) (t : CoreStep ℕ) (s : Standing) (k : Mark ℕ) → s.job ≡ None → GoesOnBy c t s k → IsFree s (after s k)
goes_free c t s (mark.Done number who d boot asks answers r events) none h =
    absurd (subst (λ (j : Option OpenJob). IsDone s j number who d boot asks answers r events) none h.2)
goes_free c t s (mark.Phase number who p asks answers next events) none h =
    absurd (subst (λ (j : Option OpenJob). IsPhased s j s.operation number who p asks answers next events) none h.2)
goes_free c t s (mark.Start number who d boot) none h = absurd (subst (λ (j : Option OpenJob). IsStarted s j number who d boot) none h.1)
goes_free c t s (mark.TakeUp number who d) none h = absurd (subst (λ (j : Option OpenJob). IsTakenUp s j number who d) none h.1)
goes_free c t s (mark.Exit boot why events) none h = record { job = ap (λ (j : Option OpenJob). job_at_exit s.state boot j) none; operation = refl }
goes_free c t s (mark.Event boot g events) none h = record { job = none; operation = refl }
goes_free c t s (mark.Cut client total taken) none h = record { job = none; operation = refl }
goes_free c t s k none h = absurd h

pub free_on : (c : Cell) (t : CoreStep ℕ) (s : Standing) (marks : List (Mark ℕ)) → s.job ≡ None → GoOn c t s marks → IsFree s (standing s marks)
free_on c t s [] none h = record { job = none; operation = refl }
free_on c t s (k ∷ marks) none h =
    let free : IsFree s (after s k) = goes_free c t s k none h.0 in
    free_then s (after s k) (standing (after s k) marks) free.operation (free_on c t (after s k) marks free.job h.2)

-- marks that close the open call

phased_some : (s : Standing) (j : Option OpenJob) (o : Option OpenOperation) (number : ℕ) (who : Who) (p : Phase) (asks : List Ask) (answers : List Answer) (next : Outcome) (events : List Transition)
    → IsPhased s j o number who p asks answers next events → (x : OpenOperation) × (o ≡ Some x)
phased_some s None o number who p asks answers next events h = absurd h
phased_some s (Some j) None number who p asks answers next events h = absurd h
phased_some s (Some j) (Some o) number who p asks answers next events h = (o, refl)

phase_closes : (s : Standing) (number : ℕ) (who : Who) (p : Phase) (asks : List Ask) (answers : List Answer) (next : Outcome) (events : List Transition)
    → IsPhased s s.job s.operation number who p asks answers next events → (after s (mark.Phase number who p asks answers next events)).job ≡ None
phase_closes s number who p asks answers next events h =
    ap (λ (o : Option OpenOperation). (after_phase s o answers next).job) (phased_some s s.job s.operation number who p asks answers next events h).1

second_of : (a b : Bool) → (a && b) ≡ true → b ≡ true
second_of true b e = e
second_of false b e = cc

rests_some : (k : Option OpKind) (o : Option OpenOperation) → rests_for k (operation_held o) ≡ true → (x : OpenOperation) × (o ≡ Some x)
rests_some None None e = cc
rests_some (Some k) None e = cc
rests_some k (Some x) e = (x, refl)

taken_some : (s : Standing) (j : Option OpenJob) (number : ℕ) (who : Who) (d : Call) → IsTakenUp s j number who d → (x : OpenOperation) × (s.operation ≡ Some x)
taken_some s None number who d h = absurd h
taken_some s (Some j) number who d h = rests_some (takes_up d) s.operation (second_of (not (meets_ended s.state d j.boot)) _ h.takes)

pub take_up_closes : (s : Standing) (number : ℕ) (who : Who) (d : Call) → IsTakenUp s s.job number who d → (after s (mark.TakeUp number who d)).job ≡ None
take_up_closes s number who d h = ap (λ (o : Option OpenOperation). (after_take_up s o number who d).job) (taken_some s s.job number who d h).1

-- a call that is open at the end was not closed: the operation stays

pub open_on : (c : Cell) (t : CoreStep ℕ) (s : Standing) (marks : List (Mark ℕ)) → GoOn c t s marks → ((standing s marks).job ≡ None → ⊥) → (standing s marks).operation ≡ s.operation
open_on c t s [] h there = refl
open_on c t s (mark.Done number who d boot asks answers r events ∷ marks) h there =
    absurd (there (free_on c t (after s (mark.Done number who d boot asks answers r events)) marks refl h.2).job)
open_on c t s (mark.Phase number who p asks answers next events ∷ marks) h there =
    absurd (there (free_on c t (after s (mark.Phase number who p asks answers next events)) marks (phase_closes s number who p asks answers next events h.0.2) h.2).job)
open_on c t s (mark.Start number who d boot ∷ marks) h there = absurd (there (free_on c t (after s (mark.Start number who d boot)) marks refl h.2).job)
open_on c t s (mark.TakeUp number who d ∷ marks) h there =
    absurd (there (free_on c t (after s (mark.TakeUp number who d)) marks (take_up_closes s number who d h.0.1) h.2).job)
open_on c t s (mark.Exit boot why events ∷ marks) h there = open_on c t (after s (mark.Exit boot why events)) marks h.2 there
open_on c t s (mark.Event boot g events ∷ marks) h there = open_on c t (after s (mark.Event boot g events)) marks h.2 there
open_on c t s (mark.Cut client total taken ∷ marks) h there = open_on c t (after s (mark.Cut client total taken)) marks h.2 there
open_on c t s (k ∷ marks) h there = absurd h.0

-- a phase that is done leaves no call open

pub led_on : (c : Cell) (t : CoreStep ℕ) (n : ℕ) (o : Outcome) (s : Standing) (marks : List (Mark ℕ)) → GoOn c t s marks → HasLedTo n o marks → (standing s marks).job ≡ None
led_on c t n o s [] h led = absurd led
led_on c t n o s (mark.Done number who d boot asks answers r events ∷ marks) h led =
    (free_on c t (after s (mark.Done number who d boot asks answers r events)) marks refl h.2).job
led_on c t n o s (mark.Phase number who p asks answers next events ∷ marks) h led =
    (free_on c t (after s (mark.Phase number who p asks answers next events)) marks (phase_closes s number who p asks answers next events h.0.2) h.2).job
led_on c t n o s (mark.Start number who d boot ∷ marks) h led = (free_on c t (after s (mark.Start number who d boot)) marks refl h.2).job
led_on c t n o s (mark.TakeUp number who d ∷ marks) h led =
    (free_on c t (after s (mark.TakeUp number who d)) marks (take_up_closes s number who d h.0.1) h.2).job
led_on c t n o s (mark.Exit boot why events ∷ marks) h led = led_on c t n o (after s (mark.Exit boot why events)) marks h.2 led
led_on c t n o s (mark.Event boot g events ∷ marks) h led = led_on c t n o (after s (mark.Event boot g events)) marks h.2 led
led_on c t n o s (mark.Cut client total taken ∷ marks) h led = led_on c t n o (after s (mark.Cut client total taken)) marks h.2 led
led_on c t n o s (k ∷ marks) h led = absurd h.0

-- a call that is done leaves the operation as it was

none_done : (c : Cell) (t : CoreStep ℕ) (n : ℕ) (r : Reply) (s : Standing) (marks : List (Mark ℕ)) → s.job ≡ None → GoOn c t s marks → HasDone n r marks → ⊥
none_done c t n r s [] none h done = done
none_done c t n r s (mark.Done number who d boot asks answers reply events ∷ marks) none h done =
    subst (λ (j : Option OpenJob). IsDone s j number who d boot asks answers reply events) none h.0.2
none_done c t n r s (k ∷ marks) none h done = none_done c t n r (after s k) marks (goes_free c t s k none h.0).job h.2 done

pub done_on : (c : Cell) (t : CoreStep ℕ) (n : ℕ) (r : Reply) (s : Standing) (marks : List (Mark ℕ)) → GoOn c t s marks → HasDone n r marks → IsFree s (standing s marks)
done_on c t n r s [] h done = absurd done
done_on c t n r s (mark.Done number who d boot asks answers reply events ∷ marks) h done =
    let next : Standing = after s (mark.Done number who d boot asks answers reply events) in
    free_then s next (standing next marks) refl (free_on c t next marks refl h.2)
done_on c t n r s (mark.Phase number who p asks answers next events ∷ marks) h done =
    absurd (none_done c t n r (after s (mark.Phase number who p asks answers next events)) marks (phase_closes s number who p asks answers next events h.0.2) h.2 done)
done_on c t n r s (mark.Start number who d boot ∷ marks) h done = absurd (none_done c t n r (after s (mark.Start number who d boot)) marks refl h.2 done)
done_on c t n r s (mark.TakeUp number who d ∷ marks) h done =
    absurd (none_done c t n r (after s (mark.TakeUp number who d)) marks (take_up_closes s number who d h.0.1) h.2 done)
done_on c t n r s (mark.Exit boot why events ∷ marks) h done =
    let next : Standing = after s (mark.Exit boot why events) in free_then s next (standing next marks) refl (done_on c t n r next marks h.2 done)
done_on c t n r s (mark.Event boot g events ∷ marks) h done =
    let next : Standing = after s (mark.Event boot g events) in free_then s next (standing next marks) refl (done_on c t n r next marks h.2 done)
done_on c t n r s (mark.Cut client total taken ∷ marks) h done =
    let next : Standing = after s (mark.Cut client total taken) in free_then s next (standing next marks) refl (done_on c t n r next marks h.2 done)
done_on c t n r s (k ∷ marks) h done = absurd h.0

-- with the first mark, of a turn that ends no operation

-- the step ends no operation
abbrev pub EndsNone : CoreStep ℕ → Type 0
EndsNone (step.EndOp n who) = ⊥
EndsNone other = Unit {0}

pub left_open : (c : Cell) (t : CoreStep ℕ) (left : List (Mark ℕ)) → EndsNone t → MayLeave c t left → ((standing (standing_of c) left).job ≡ None → ⊥)
    → (standing (standing_of c) left).operation ≡ (standing_of c).operation
left_open c t [] e h there = refl
left_open c t (mark.Admit number who wanted d boot ∷ left) e h there = open_on c t (after (standing_of c) (mark.Admit number who wanted d boot)) left h.2 there
left_open c t (mark.Refused number who d why held ∷ left) e h there = open_on c t (after (standing_of c) (mark.Refused number who d why held)) left h.2 there
left_open c t (mark.Watch number client ∷ left) e h there = open_on c t (after (standing_of c) (mark.Watch number client)) left h.2 there
left_open c t (mark.Unwatch number client ∷ left) e h there = open_on c t (after (standing_of c) (mark.Unwatch number client)) left h.2 there
left_open c (step.EndOp x w) (mark.End number who r ∷ left) e h there = absurd e
left_open c t (mark.End number who r ∷ left) e h there = absurd h.0
left_open c t (k ∷ left) e h there = open_on c t (standing_of c) (k ∷ left) h there

pub left_done : (c : Cell) (t : CoreStep ℕ) (n : ℕ) (r : Reply) (left : List (Mark ℕ)) → EndsNone t → MayLeave c t left → HasDone n r left → IsFree (standing_of c) (standing (standing_of c) left)
left_done c t n r [] e h done = absurd done
left_done c t n r (mark.Admit number who wanted d boot ∷ left) e h done =
    let next : Standing = after (standing_of c) (mark.Admit number who wanted d boot) in
    free_then (standing_of c) next (standing next left) refl (done_on c t n r next left h.2 done)
left_done c t n r (mark.Refused number who d why held ∷ left) e h done =
    let next : Standing = after (standing_of c) (mark.Refused number who d why held) in
    free_then (standing_of c) next (standing next left) refl (done_on c t n r next left h.2 done)
left_done c t n r (mark.Watch number client ∷ left) e h done =
    let next : Standing = after (standing_of c) (mark.Watch number client) in
    free_then (standing_of c) next (standing next left) refl (done_on c t n r next left h.2 done)
left_done c t n r (mark.Unwatch number client ∷ left) e h done =
    let next : Standing = after (standing_of c) (mark.Unwatch number client) in
    free_then (standing_of c) next (standing next left) refl (done_on c t n r next left h.2 done)
left_done c (step.EndOp x w) n r (mark.End number who reply ∷ left) e h done = absurd e
left_done c t n r (mark.End number who reply ∷ left) e h done = absurd h.0
left_done c t n r (k ∷ left) e h done = done_on c t n r (standing_of c) (k ∷ left) h done

pub left_led : (c : Cell) (t : CoreStep ℕ) (n : ℕ) (o : Outcome) (left : List (Mark ℕ)) → MayLeave c t left → HasLedTo n o left → (standing (standing_of c) left).job ≡ None
left_led c t n o [] h led = absurd led
left_led c t n o (mark.Admit number who wanted d boot ∷ left) h led = led_on c t n o (after (standing_of c) (mark.Admit number who wanted d boot)) left h.2 led
left_led c t n o (mark.Refused number who d why held ∷ left) h led = led_on c t n o (after (standing_of c) (mark.Refused number who d why held)) left h.2 led
left_led c t n o (mark.Watch number client ∷ left) h led = led_on c t n o (after (standing_of c) (mark.Watch number client)) left h.2 led
left_led c t n o (mark.Unwatch number client ∷ left) h led = led_on c t n o (after (standing_of c) (mark.Unwatch number client)) left h.2 led
left_led c t n o (mark.End number who r ∷ left) h led = led_on c t n o (after (standing_of c) (mark.End number who r)) left h.2 led
left_led c t n o (k ∷ left) h led = led_on c t n o (standing_of c) (k ∷ left) h led

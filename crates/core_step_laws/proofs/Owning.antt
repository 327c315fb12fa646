-- Which marks bear a number.
use Rattle.std.proofs.Common.{◌≡◌, ℕ, ◌==◌, List, [], ◌∷◌, map, Bool, true, false, Option, None, Some, if◌then◌else◌, refl, sym, ap, ◌∙◌, eq-eqb}
use Rattle.history_spec.specs.Pass.{IsOf, bears, own}
use Rattle.domain_spec.specs.Types.{Call, Job, RefusalCode, Reply, Who}
use Rattle.domain_spec.specs.declared.core_step.CoreStep.{CoreStep}
use Rattle.domain_spec.specs.declared.core_step.CoreStep.TheVariants as step
use Rattle.domain_spec.specs.declared.mark.HeldJobs.{HeldJobs}
use Rattle.domain_spec.specs.declared.mark.HeldOperation.{HeldOperation}
use Rattle.domain_spec.specs.declared.mark.Mark.{Mark}
use Rattle.domain_spec.specs.declared.mark.Mark.TheVariants as mark
use Rattle.domain_spec.specs.declared.standing.Standing.{Standing}
use Rattle.domain_spec.specs.declared.step.Outcome.{Outcome}
use Rattle.domain_spec.specs.Cell.{Cell, standing_of}
use Rattle.domain_spec.specs.Fold.{after}
use Rattle.domain_spec.specs.Open.{job_held, operation_held}
use Rattle.domain_spec.specs.Steps.{TurnsAway}
use Rattle.domain_spec.specs.Turns.{BeginsBy, GoOn, GoesOnBy, MayLeave}
use Rattle.core_steps.specs.Phased.{HasLedTo}
use Rattle.core_steps.specs.Turning.{HasDone}
use Rattle.core_step_laws.specs.Shares.{whose}
use Rattle.core_step_laws.proofs.Jobs.{differ}
use Rattle.core_step_laws.specs.Own.{LeavesNoOwn, OthersHaveNone, OwnAreAll, RefusalsAreOwn, SomeLeaveNone, jobs_in}

-- the marks with one more that bears a number, or none
abbrev with_one : ℕ → Mark ℕ → Option ℕ → List (Mark ℕ) → List (Mark ℕ)
with_one n m o ms = if bears n o then m ∷ own whose n ms else own whose n ms

pub own_here : (n : ℕ) (m : Mark ℕ) (ms : List (Mark ℕ)) → whose m ≡ Some n → own whose n (m ∷ ms) ≡ m ∷ own whose n ms
own_here n m ms e =
    ap (λ (o : Option ℕ). with_one n m o ms) e ∙ ap (λ (b : Bool). if b then m ∷ own whose n ms else own whose n ms) (eq-eqb n n refl)

pub own_nobody : (n : ℕ) (m : Mark ℕ) (ms : List (Mark ℕ)) → whose m ≡ None → own whose n (m ∷ ms) ≡ own whose n ms
own_nobody n m ms e = ap (λ (o : Option ℕ). with_one n m o ms) e

pub own_other : (n k : ℕ) (m : Mark ℕ) (ms : List (Mark ℕ)) → whose m ≡ Some k → (k ≡ n → ⊥) → own whose n (m ∷ ms) ≡ own whose n ms
own_other n k m ms e unlike =
    ap (λ (o : Option ℕ). with_one n m o ms) e ∙ ap (λ (b : Bool). if b then m ∷ own whose n ms else own whose n ms) (differ k n (k == n) refl unlike)

none_by : (b : Bool) (m : Mark ℕ) (ms : List (Mark ℕ)) → (if b then m ∷ ms else ms) ≡ [] → ms ≡ []
none_by true m ms e = cc
none_by false m ms e = e

own_behind : (n : ℕ) (m : Mark ℕ) (ms : List (Mark ℕ)) → own whose n (m ∷ ms) ≡ [] → own whose n ms ≡ []
own_behind n m ms e = none_by (bears n (whose m)) m (own whose n ms) e

not_none : (n : ℕ) (m : Mark ℕ) (ms : List (Mark ℕ)) → whose m ≡ Some n → own whose n (m ∷ ms) ≡ [] → ⊥
not_none n m ms e none = let here : own whose n (m ∷ ms) ≡ m ∷ own whose n ms = own_here n m ms e in cc

-- a Done and a Phase of a number are its own marks

pub done_owned : (n : ℕ) (r : Reply) (ms : List (Mark ℕ)) → HasDone n r ms → own whose n ms ≡ [] → ⊥
done_owned n r [] h none = absurd h
done_owned n r (mark.Done number who d boot asks answers reply events ∷ ms) h none =
    not_none n (mark.Done number who d boot asks answers reply events) ms (ap (λ (k : ℕ). Some k) h.0) none
done_owned n r (m ∷ ms) h none = done_owned n r ms h (own_behind n m ms none)

pub led_owned : (n : ℕ) (o : Outcome) (ms : List (Mark ℕ)) → HasLedTo n o ms → own whose n ms ≡ [] → ⊥
led_owned n o [] h none = absurd h
led_owned n o (mark.Phase number who p asks answers next events ∷ ms) h none =
    not_none n (mark.Phase number who p asks answers next events) ms (ap (λ (k : ℕ). Some k) h.0) none
led_owned n o (m ∷ ms) h none = led_owned n o ms h (own_behind n m ms none)

-- laws

pub own_are_all : OwnAreAll
own_are_all n [] h = refl
own_are_all n (m ∷ left) h = own_here n m left h.0 ∙ ap (λ (ms : List (Mark ℕ)). m ∷ ms) (own_are_all n left h.1)

other_by : (n m : ℕ) (k : Mark ℕ) (ms : List (Mark ℕ)) (o : Option ℕ) → whose k ≡ o → IsOf n o → (m ≡ n → ⊥) → own whose m (k ∷ ms) ≡ own whose m ms
other_by n m k ms None e h unlike = own_nobody m k ms e
other_by n m k ms (Some x) e h unlike = own_other m x k ms e (λ same. unlike (sym same ∙ h))

pub others_have_none : OthersHaveNone
others_have_none n m [] h unlike = refl
others_have_none n m (k ∷ left) h unlike = other_by n m k left (whose k) refl h.0 unlike ∙ others_have_none n m left h.1 unlike

held_by : (c : Cell) (t : CoreStep ℕ) (number : ℕ) (w : Who) (e : Call) (why : RefusalCode) (held : HeldJobs) → TurnsAway c t number w e why held → held.waiting ≡ map (λ w. w.who) c.queue.callers
held_by c (step.Look n who d first) number w e why held h = h.0.waiting
held_by c (step.BeginOp n who d) number w e why held h = h.0.waiting
held_by c (step.TakeUp n who d) number w e why held h = h.0.waiting
held_by c (step.GiveUp n who d) number w e why held h = h.0.waiting
held_by c t number w e why held h = absurd h

held_is : (c : Cell) (held : HeldJobs) → held.active ≡ job_held (standing_of c).job → held.op ≡ operation_held (standing_of c).operation → held.waiting ≡ map (λ w. w.who) c.queue.callers → held ≡ jobs_in c
held_is c held active op waiting =
    ap (λ (x : Option (Job × Who)). record { active = x; op = held.op; waiting = held.waiting }) active
    ∙ ap (λ (x : Option HeldOperation). record { active = job_held (standing_of c).job; op = x; waiting = held.waiting }) op
    ∙ ap (λ (x : List Who). record { active = job_held (standing_of c).job; op = operation_held (standing_of c).operation; waiting = x }) waiting

refused_is : (c : Cell) (n number : ℕ) (who w : Who) (d e : Call) (why code : RefusalCode) (held : HeldJobs) → number ≡ n → w ≡ who → e ≡ d → code ≡ why → held ≡ jobs_in c
    → own whose n (mark.Refused number w e code held ∷ []) ≡ mark.Refused n who d why (jobs_in c) ∷ []
refused_is c n number who w d e why code held p q r s h =
    own_here n (mark.Refused number w e code held) [] (ap (λ (k : ℕ). Some k) p)
    ∙ ap (λ (k : ℕ). mark.Refused k w e code held ∷ []) p
    ∙ ap (λ (x : Who). mark.Refused n x e code held ∷ []) q
    ∙ ap (λ (x : Call). mark.Refused n who x code held ∷ []) r
    ∙ ap (λ (x : RefusalCode). mark.Refused n who d x held ∷ []) s
    ∙ ap (λ (x : HeldJobs). mark.Refused n who d why x ∷ []) h

pub refusals_are_own : RefusalsAreOwn
refusals_are_own c t n who d why [] turn h = absurd h
refusals_are_own c t n who d why (mark.Refused number w e code held ∷ []) turn h =
    let begins = turn.left.0 in
    let jobs : held ≡ jobs_in c = held_is c held begins.1.held_then.active begins.1.held_then.op (held_by c t number w e code held begins.0) in
    refused_is c n number who w d e why code held h.0 h.1 h.2 h.3 jobs
refusals_are_own c t n who d why (mark.Refused number w e code held ∷ k ∷ ms) turn h = absurd h
refusals_are_own c t n who d why (m ∷ ms) turn h = absurd h

-- steps that leave none

goes_nobody : (c : Cell) (t : CoreStep ℕ) (s : Standing) (m : Mark ℕ) → LeavesNoOwn t → GoesOnBy c t s m → whose m ≡ None
goes_nobody c (step.Exit b w) s (mark.Done number who d boot asks answers r events) so h = absurd h.0
goes_nobody c (step.Exit b w) s (mark.Phase number who p asks answers next events) so h = absurd h.0
goes_nobody c (step.Exit b w) s (mark.Start number who d boot) so h = absurd h.0
goes_nobody c (step.Exit b w) s (mark.TakeUp number who d) so h = absurd h.0
goes_nobody c (step.Event b g) s (mark.Done number who d boot asks answers r events) so h = absurd h.0
goes_nobody c (step.Event b g) s (mark.Phase number who p asks answers next events) so h = absurd h.0
goes_nobody c (step.Event b g) s (mark.Start number who d boot) so h = absurd h.0
goes_nobody c (step.Event b g) s (mark.TakeUp number who d) so h = absurd h.0
goes_nobody c (step.Take k x) s (mark.Done number who d boot asks answers r events) so h = absurd h.0
goes_nobody c (step.Take k x) s (mark.Phase number who p asks answers next events) so h = absurd h.0
goes_nobody c (step.Take k x) s (mark.Start number who d boot) so h = absurd h.0
goes_nobody c (step.Take k x) s (mark.TakeUp number who d) so h = absurd h.0
goes_nobody c (step.Rotate k w) s (mark.Done number who d boot asks answers r events) so h = absurd h.0
goes_nobody c (step.Rotate k w) s (mark.Phase number who p asks answers next events) so h = absurd h.0
goes_nobody c (step.Rotate k w) s (mark.Start number who d boot) so h = absurd h.0
goes_nobody c (step.Rotate k w) s (mark.TakeUp number who d) so h = absurd h.0
goes_nobody c t s (mark.Exit boot why events) so h = refl
goes_nobody c t s (mark.Event boot g events) so h = refl
goes_nobody c t s (mark.Cut client total taken) so h = refl
goes_nobody c t s (mark.Admit number who wanted d boot) so h = absurd h
goes_nobody c t s (mark.Refused number who d why held) so h = absurd h
goes_nobody c t s (mark.End number who r) so h = absurd h
goes_nobody c t s (mark.Watch number client) so h = absurd h
goes_nobody c t s (mark.Unwatch number client) so h = absurd h
goes_nobody c t s m so h = absurd so

begins_nobody : (c : Cell) (t : CoreStep ℕ) (m : Mark ℕ) → LeavesNoOwn t → BeginsBy c t (standing_of c) m → whose m ≡ None
begins_nobody c (step.Exit b w) (mark.Admit number who wanted d boot) so h = absurd h
begins_nobody c (step.Exit b w) (mark.Refused number who d why held) so h = absurd h.0
begins_nobody c (step.Exit b w) m so h = goes_nobody c (step.Exit b w) (standing_of c) m so h
begins_nobody c (step.Event b g) (mark.Admit number who wanted d boot) so h = absurd h
begins_nobody c (step.Event b g) (mark.Refused number who d why held) so h = absurd h.0
begins_nobody c (step.Event b g) m so h = goes_nobody c (step.Event b g) (standing_of c) m so h
begins_nobody c (step.Take k x) (mark.Admit number who wanted d boot) so h = absurd h
begins_nobody c (step.Take k x) (mark.Refused number who d why held) so h = absurd h.0
begins_nobody c (step.Take k x) m so h = goes_nobody c (step.Take k x) (standing_of c) m so h
begins_nobody c (step.Rotate k w) (mark.Admit number who wanted d boot) so h = absurd h
begins_nobody c (step.Rotate k w) (mark.Refused number who d why held) so h = absurd h.0
begins_nobody c (step.Rotate k w) m so h = goes_nobody c (step.Rotate k w) (standing_of c) m so h
begins_nobody c t m so h = absurd so

on_nobody : (c : Cell) (t : CoreStep ℕ) (n : ℕ) (s : Standing) (ms : List (Mark ℕ)) → LeavesNoOwn t → GoOn c t s ms → own whose n ms ≡ []
on_nobody c t n s [] so h = refl
on_nobody c t n s (m ∷ ms) so h = own_nobody n m ms (goes_nobody c t s m so h.0) ∙ on_nobody c t n (after s m) ms so h.2

left_nobody : (c : Cell) (t : CoreStep ℕ) (n : ℕ) (ms : List (Mark ℕ)) → LeavesNoOwn t → MayLeave c t ms → own whose n ms ≡ []
left_nobody c t n [] so h = refl
left_nobody c t n (m ∷ ms) so h = own_nobody n m ms (begins_nobody c t m so h.0) ∙ on_nobody c t n (after (standing_of c) m) ms so h.2

pub some_leave_none : SomeLeaveNone
some_leave_none c t n left so turn = left_nobody c t n left so turn.left

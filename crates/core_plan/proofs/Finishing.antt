-- Why the Done of a call is lawful whose answers are all there.
use Rattle.std.proofs.Common.{◌≡◌, ℕ, List, [], ◌∷◌, Bool, true, false, not, ◌&&◌, ◌||◌, ◌++◌, ◌+◌, unwrap_or, arith, is_none, is_some, Option, None, Some, if◌then◌else◌, length, refl, sym, ap, ◌∙◌, subst}
use Rattle.std.specs.List.{list_any}
use Rattle.std.proofs.lemmas.Bool.Decides.{nat_tests}
use Rattle.std.proofs.lemmas.List.{length-append}
use Rattle.domain_spec.specs.Types.{Answer, Ask, Call, Live, OpKind, State}
use Rattle.domain_spec.specs.declared.mark.HeldOperation.{HeldOperation}
use Rattle.domain_spec.specs.declared.open.OpenJob.{OpenJob}
use Rattle.domain_spec.specs.declared.open.OpenOperation.{OpenOperation}
use Rattle.domain_spec.specs.declared.planned.PlannedAsk.{PlannedAsk}
use Rattle.domain_spec.specs.declared.standing.Standing.{Standing}
use Rattle.domain_spec.specs.declared.step.Outcome.{Outcome}
use Rattle.domain_spec.specs.declared.step.Outcome.TheVariants as outcome
use Rattle.domain_spec.specs.Types.phase
use Rattle.domain_spec.specs.Asks.{asks_left, asks_made, is_ended_answer}
use Rattle.domain_spec.specs.Call.{begins, is_on_stored, plan_of, takes_up}
use Rattle.domain_spec.specs.Lawful.{EndedFirst, IsDoneAs, IsUnsentUntilMade, UnsentBefore, WerePlanned, planned_in}
use Rattle.domain_spec.specs.Open.{operation_held}
use Rattle.domain_spec.specs.Reading.{boot_in, carries_ended, is_boot_in, is_live, live_boot, live_of}
use Rattle.domain_spec.specs.Sequential.{asked, makes_asks, meets_ended, still_asked}
use Rattle.domain_spec.specs.TakeUp.{rests_for, step_at, takes_it_up}
use Rattle.domain_spec.specs.Tests.{refusal_of}
use Rattle.core_rules.specs.declared.next.Next.TheVariants as next
use Rattle.core_rules.specs.declared.next.Next.{Next}
use Rattle.core_rules.specs.Next.{is_ask, next_of}
use Rattle.core_plan.specs.Along.{Asked, answered}
use Rattle.core_plan.proofs.Courses.{made_more}
use Rattle.core_mark_laws.specs.Tidy.{planned}
use Rattle.core_plan.specs.Away.{IsAway, IsOfKind, IsOnGuest, IsUnsent}
use Rattle.core_plan.specs.AwayLaws.{IsDoneAtOnce, IsDoneEnded, IsDoneLive, made}
use Rattle.core_plan.proofs.Planning.{asked_planned, still_planned}

-- nothing is left where it can be finished
pub nothing_next : (asks : List Ask) → next_of asks ≡ next.Finish → asks ≡ []
nothing_next [] e = refl
nothing_next (a ∷ asks) e = cc

-- a call that begins none does not go on as an operation
begins_not : (k : Option OpKind) (makes : Bool) → k ≡ None → (is_some k && makes) ≡ false
begins_not None makes e = refl
begins_not (Some k) makes e = cc

rests_not : (k : Option OpKind) (held : Option HeldOperation) → k ≡ None → rests_for k held ≡ false
rests_not None None e = refl
rests_not None (Some held) e = refl
rests_not (Some k) held e = cc

and_false : (b c : Bool) → c ≡ false → (b && c) ≡ false
and_false true c e = e
and_false false c e = refl

-- a call that takes none up is not one that does
takes_not : (s : Standing) (c : Call) (boot : Option ℕ) → takes_up c ≡ None → takes_it_up s c boot ≡ false
takes_not s c boot e = and_false (not (meets_ended s.state c boot)) _ (rests_not (takes_up c) (operation_held s.operation) e)

not_made : (meets : Bool) (refused : Bool) → meets ≡ true → (not meets && refused) ≡ false
not_made true refused e = refl
not_made false refused e = cc

-- where the boot has ended nothing is asked any more
pub none_asked : (s : State) (c : Call) (boot : Option ℕ) (answers : List Answer) → meets_ended s c boot ≡ true → still_asked s c boot answers ≡ []
none_asked s c boot answers e =
    ap (λ (b : Bool). if b then asks_left (plan_of s c) answers else []) (not_made (meets_ended s c boot) (is_none (refusal_of s boot c)) e)

-- a call whose boot is live is done as the driver does it, once its plan is through
pub done_live : (s : Standing) (before : Option State) (c : Call) (boot : Option ℕ) (plan : List PlannedAsk) (answers : List Answer)
    → meets_ended s.state c boot ≡ false → begins c ≡ None → takes_up c ≡ None → plan ≡ planned s.state c boot
    → next_of (asks_left plan answers) ≡ next.Finish → length (asks_made plan answers) ≡ length answers
    → list_any is_ended_answer answers ≡ false → IsUnsentUntilMade s.operation boot (asks_made plan answers) answers
    → IsDoneAs s before c boot (asks_made plan answers) answers (step_at s c boot answers).reply (step_at s c boot answers).transitions
done_live s before c boot plan answers live none takes is_plan through len none_ended unsent = record {
  planned =
      subst (λ (b : Bool). WerePlanned (planned_in b s.state before) (λ at. asked at c boot answers) (asks_made plan answers) answers) (sym live)
      (ap (λ (p : List PlannedAsk). asks_made p answers) is_plan ∙ asked_planned s.state c boot answers, len);
  through =
      sym (still_planned s.state c boot answers) ∙ ap (λ (p : List PlannedAsk). asks_left p answers) (sym is_plan) ∙ nothing_next (asks_left plan answers) through;
  no_operation = begins_not (begins c) (makes_asks s.state c boot) none;
  not_taken_up = takes_not s c boot takes;
  ended_first = subst (λ (b : Bool). EndedFirst b answers) (sym live) none_ended;
  unsent = unsent;
  reply = refl;
  told = refl;
}

-- a call whose boot has ended since, whatever it was answered
pub done_ended : (s : Standing) (was : State) (c : Call) (boot : Option ℕ) (plan : List PlannedAsk) (answers : List Answer)
    → meets_ended s.state c boot ≡ true → begins c ≡ None → takes_up c ≡ None → plan ≡ planned was c boot
    → length (asks_made plan answers) ≡ length answers → IsUnsentUntilMade s.operation boot (asks_made plan answers) answers
    → IsDoneAs s (Some was) c boot (asks_made plan answers) answers (step_at s c boot answers).reply (step_at s c boot answers).transitions
done_ended s was c boot plan answers ended none takes is_plan len unsent = record {
  planned =
      subst (λ (b : Bool). WerePlanned (planned_in b s.state (Some was)) (λ at. asked at c boot answers) (asks_made plan answers) answers) (sym ended)
      (ap (λ (p : List PlannedAsk). asks_made p answers) is_plan ∙ asked_planned was c boot answers, len);
  through = none_asked s.state c boot answers ended;
  no_operation = begins_not (begins c) (makes_asks s.state c boot) none;
  not_taken_up = takes_not s c boot takes;
  ended_first = subst (λ (b : Bool). EndedFirst b answers) (sym ended) tt;
  unsent = unsent;
  reply = refl;
  told = refl;
}

unsent_by : (made boot : Option ℕ) (o : Outcome) → UnsentBefore made boot o [] []
unsent_by None boot o = tt
unsent_by (Some made) None o = tt
unsent_by (Some made) (Some boot) (outcome.On phase.Make) = λ e. tt
unsent_by (Some made) (Some boot) other = tt

pub unsent_none : (o : Option OpenOperation) (boot : Option ℕ) → IsUnsentUntilMade o boot [] []
unsent_none None boot = tt
unsent_none (Some o) boot = unsent_by o.boot boot o.outcome

made_none : (b : Bool) (plan : List PlannedAsk) → [] ≡ (if b then asks_made plan [] else [])
made_none true plan = refl
made_none false plan = refl

planned_none : (s : State) (c : Call) (boot : Option ℕ) (meets : Bool) → WerePlanned (planned_in meets s None) (λ at. asked at c boot []) [] []
planned_none s c boot true = (refl, refl)
planned_none s c boot false = (made_none (makes_asks s c boot) (plan_of s c), refl)

ended_none : (meets : Bool) → EndedFirst meets []
ended_none true = tt
ended_none false = refl

-- a call that is let in and asks nothing of anybody
pub done_at_once : IsDoneAtOnce
done_at_once s c boot none takes through = record {
  planned = planned_none s.state c boot (meets_ended s.state c boot);
  through = nothing_next (still_asked s.state c boot []) through;
  no_operation = begins_not (begins c) (makes_asks s.state c boot) none;
  not_taken_up = takes_not s c boot takes;
  ended_first = ended_none (meets_ended s.state c boot);
  unsent = unsent_none s.operation boot;
  reply = refl;
  told = refl;
}

-- a call that was away, with one more answer

pub more_len : (answers : List Answer) (x : Answer) (asks : List Ask) (a : Ask) → length asks ≡ length answers → length (asks ++ a ∷ []) ≡ length (answers ++ x ∷ [])
more_len answers x asks a e = length-append asks (a ∷ []) ∙ ap (λ (n : ℕ). n + 1) e ∙ sym (length-append answers (x ∷ []))

pub next_ask : (n : Next) → is_ask n ≡ true → (a : Ask) × (n ≡ next.Ask a)
next_ask (next.Ask a) e = (a, refl)
next_ask next.Finish e = cc

pub made_one_more : (s : State) (o : Option OpenOperation) (j : OpenJob) (a : Asked) (x : Answer) → IsAway s o j a → length (asks_made a.plan (a.answers ++ x ∷ [])) ≡ length (a.answers ++ x ∷ [])
made_one_more s o j a x h =
    let waits = next_ask (next_of (asks_left a.plan a.answers)) h.waits in
    ap (λ (asks : List Ask). length asks) (made_more a.plan a.answers x waits.0 waits.1) ∙ more_len a.answers x (asks_made a.plan a.answers) waits.0 h.asked

both_false : (b c : Bool) → (b || c) ≡ false → (b ≡ false) × (c ≡ false)
both_false true c e = cc
both_false false c e = (refl, e)

or_false : (b c : Bool) → b ≡ false → c ≡ false → (b || c) ≡ false
or_false true c e f = cc
or_false false c e f = f

pub any_more : (answers : List Answer) (x : Answer) → list_any is_ended_answer answers ≡ false → is_ended_answer x ≡ false → list_any is_ended_answer (answers ++ x ∷ []) ≡ false
any_more [] x e f = or_false (is_ended_answer x) false f refl
any_more (b ∷ answers) x e f =
    let h = both_false (is_ended_answer b) (list_any is_ended_answer answers) e in
    or_false (is_ended_answer b) (list_any is_ended_answer (answers ++ x ∷ [])) h.0 (any_more answers x h.1 f)

same_live : (l : Option Live) (boot : ℕ) → boot_in l ≡ Some boot → is_boot_in l boot ≡ true
same_live None boot e = cc
same_live (Some l) boot e = let same : l.boot ≡ boot = cc in grind (arith, nat_tests, same)

meets_not : (stored live : Bool) → live ≡ true → (not stored && not live) ≡ true → ⊥
meets_not true true e f = cc
meets_not true false e f = cc
meets_not false true e f = cc
meets_not false false e f = cc

true_not_false : true ≡ false → ⊥
true_not_false e = cc

is_there : (s : State) (c : Call) (carried : Option ℕ) (boot : ℕ) → live_boot s ≡ Some boot → carried ≡ Some boot → meets_ended s c carried ≡ true → ⊥
is_there s c carried boot at is ended =
    meets_not (is_on_stored c) (is_live s boot) (same_live (live_of s) boot at) (ap (λ (o : Option ℕ). meets_ended s c o) (sym is) ∙ ended)

-- a call whose boot has ended is on a guest
is_guest : (stored : Bool) (s : State) (c : Call) (carried : Option ℕ) → is_on_stored c ≡ stored → meets_ended s c carried ≡ true → is_on_stored c ≡ false
is_guest true s c carried is ended = absurd (true_not_false (sym ended ∙ ap (λ (b : Bool). not b && carries_ended s carried) is))
is_guest false s c carried is ended = is

-- a boot that was never live since the call was let in can't have ended meanwhile
done_since : (s : Standing) (j : OpenJob) (a : Asked) (x : Answer) → IsAway s.state s.operation j a → IsOnGuest s.state j → (before : Option State) → j.before ≡ before
    → meets_ended s.state j.call j.boot ≡ true → IsUnsent s.operation j (answered a x)
    → IsDoneAs s j.before j.call j.boot (made (answered a x)) (answered a x).answers (step_at s j.call j.boot (answered a x).answers).reply (step_at s j.call j.boot (answered a x).answers).transitions
done_since s j a x h g None e ended unsent =
    let at : live_boot s.state ≡ Some g.boot = ap (λ (y : Option State). live_boot (unwrap_or y s.state)) (sym e) ∙ g.was_live in
    absurd (is_there s.state j.call j.boot g.boot at g.carried ended)
done_since s j a x h g (Some was) e ended unsent =
    subst (λ (y : Option State). IsDoneAs s y j.call j.boot (made (answered a x)) (answered a x).answers (step_at s j.call j.boot (answered a x).answers).reply (step_at s j.call j.boot (answered a x).answers).transitions) (sym e)
    (done_ended s was j.call j.boot a.plan (a.answers ++ x ∷ []) ended h.begins_none h.takes_none
    (h.plan ∙ ap (λ (y : Option State). planned (unwrap_or y s.state) j.call j.boot) e) (made_one_more s.state s.operation j a x h) unsent)

pub is_done_live : IsDoneLive
is_done_live s j a x h live through last unsent =
    done_live s j.before j.call j.boot a.plan (a.answers ++ x ∷ []) live h.begins_none h.takes_none (h.now live) through (made_one_more s.state s.operation j a x h) (any_more a.answers x h.none_ended last) unsent

pub is_done_ended : IsDoneEnded
is_done_ended s j a x h ended unsent =
    let guest = is_guest (is_on_stored j.call) s.state j.call j.boot refl ended in
    done_since s j a x h (subst (λ (b : Bool). IsOfKind b s.state j) guest h.kind) j.before refl ended unsent

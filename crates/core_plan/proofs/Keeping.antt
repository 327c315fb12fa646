-- What waits for an answer still does after another answer, and after the end of its boot.
use Rattle.std.proofs.Common.{◌≡◌, ℕ, ◌+◌, inl, inr, List, [], ◌∷◌, ◌++◌, length, Bool, true, false, not, ◌||◌, Option, None, Some, if◌then◌else◌, unwrap_or, refl, sym, ap, ◌∙◌, subst, arith}
use Rattle.std.specs.List.{list_any}
use Rattle.std.proofs.lemmas.Bool.Decides.{nat_tests}
use Rattle.std.proofs.lemmas.List.{length-append}
use Rattle.domain_spec.specs.Types.{Answer, Ask, Call, Domain, EndReason, Live, Op, Phase, State}
use Rattle.domain_spec.specs.Types.state
use Rattle.domain_spec.specs.declared.open.OpenJob.{OpenJob}
use Rattle.domain_spec.specs.declared.open.OpenOperation.{OpenOperation}
use Rattle.domain_spec.specs.declared.planned.PlannedAsk.{PlannedAsk}
use Rattle.domain_spec.specs.declared.step.Outcome.TheVariants as outcome
use Rattle.domain_spec.specs.Asks.{asks_left, asks_made, is_ended_answer, value_of}
use Rattle.domain_spec.specs.Cell.{planned_at}
use Rattle.domain_spec.specs.Exit.{exit_state}
use Rattle.domain_spec.specs.Fold.{carries, job_at_exit}
use Rattle.domain_spec.specs.Lawful.{IsNested}
use Rattle.domain_spec.specs.Phase.{phase_still_asked, plan_in, plan_on}
use Rattle.domain_spec.specs.PhaseAsks.{copied_bytes, phase_plan}
use Rattle.domain_spec.specs.Reading.{boot_in, carries_ended, is_boot_in, is_live, live_boot, live_of}
use Rattle.domain_spec.proofs.EndsOnce.{live_is}
use Rattle.domain_spec.proofs.ExitProofs.{live_boot-exit}
use Rattle.core_rules.specs.declared.next.Next.{Next}
use Rattle.core_rules.specs.declared.next.Next.TheVariants as next
use Rattle.core_rules.specs.Next.{is_ask, next_of}
use Rattle.core_plan.specs.Along.{Asked}
use Rattle.core_plan.proofs.Courses.{made_more}
use Rattle.core_plan.specs.Away.{NoneSince}
use Rattle.core_plan.proofs.Finishing.{any_more, more_len, next_ask}
use Rattle.core_plan.proofs.Staying.{carries_it, some_none}
use Rattle.core_mark_laws.specs.Guests.{HasOwnGuest, RunsOnly}
use Rattle.core_plan.specs.PhaseCopying.{plan_after, with_answer, with_copy, writing}
use Rattle.core_plan.specs.PhaseAway.{IsPhaseAway}
use Rattle.core_plan.specs.PhaseLaws.{PhaseBegins, PhaseExitKeeps, PhaseGoesOn, PhasePlanStays}
use Rattle.core_plan.proofs.Following.{plans_follow}

pub true_not_false : true ≡ false → ⊥
true_not_false e = cc

-- what is live

same_live : (l : Option Live) (boot : ℕ) → boot_in l ≡ Some boot → is_boot_in l boot ≡ true
same_live None boot e = cc
same_live (Some l) boot e = let same : l.boot ≡ boot = cc in grind (arith, nat_tests, same)

none_live : (l : Option Live) (boot : ℕ) → boot_in l ≡ None → is_boot_in l boot ≡ false
none_live None boot e = refl
none_live (Some l) boot e = cc

-- an operation whose boot is live has not met its end
pub is_there : (s : State) (carried : Option ℕ) (boot : ℕ) → live_boot s ≡ Some boot → carried ≡ Some boot → carries_ended s carried ≡ false
is_there s carried boot at is = ap (λ (o : Option ℕ). carries_ended s o) is ∙ ap not (same_live (live_of s) boot at)

-- and one whose boot is not live has
pub is_gone : (s : State) (carried : Option ℕ) (boot : ℕ) → live_boot s ≡ None → carried ≡ Some boot → carries_ended s carried ≡ true
is_gone s carried boot at is = ap (λ (o : Option ℕ). carries_ended s o) is ∙ ap not (none_live (live_of s) boot at)

-- a phase begins

asks_if : (ended : Bool) (asks : List Ask) (x : Ask) → next_of (if ended then [] else asks) ≡ next.Ask x → (ended ≡ false) × (next_of asks ≡ next.Ask x)
asks_if true asks x e = cc
asks_if false asks x e = (refl, e)

-- an operation without a guest asks nobody
vacant_by : (d : Domain) (live : Option Live) (op : Op) (c : Call) (x : Ask) → boot_in live ≡ None → next_of (asks_left (phase_plan d live op c []) []) ≡ next.Ask x → ⊥
vacant_by d None op c x none e = cc
vacant_by d (Some l) op c x none e = cc

vacant_on : (d : Domain) (op : Option Op) (c : Call) (x : Ask) → boot_in d.live ≡ None → next_of (asks_left (plan_on d op c []) []) ≡ next.Ask x → ⊥
vacant_on d None c x none e = cc
vacant_on d (Some op) c x none e = vacant_by d d.live op c x none e

vacant_plan : (s : State) (c : Call) (x : Ask) → live_boot s ≡ None → next_of (asks_left (plan_in s c []) []) ≡ next.Ask x → ⊥
vacant_plan (state.Vacant boots) c x none e = cc
vacant_plan (state.Held d) c x none e = vacant_on d d.op c x none e

own_boot : (s : State) (carried : Option ℕ) (boot : ℕ) → live_boot s ≡ Some boot → RunsOnly carried s → carried ≡ Some boot
own_boot s carried boot is (inl e) = sym e ∙ is
own_boot s carried boot is (inr e) = absurd (some_none boot (sym is ∙ e))

begins_by : (s : State) (o : OpenOperation) (j : OpenJob) (p : Phase) (x : Ask) (live : Option ℕ) → live_boot s ≡ live
    → HasOwnGuest s (Some o) → IsNested j o j.number o.who → o.outcome ≡ outcome.On p → j.boot ≡ live_boot s → j.before ≡ None
    → next_of (phase_still_asked s o []) ≡ next.Ask x → IsPhaseAway s o j (record { plan = plan_in s o.call []; answers = [] })
begins_by s o j p x None is own nested due carried before e =
    absurd (vacant_plan s o.call x is (asks_if (carries_ended s o.boot) (asks_left (plan_in s o.call []) []) x e).1)
begins_by s o j p x (Some boot) is own nested due carried before e =
    let at : planned_at s j ≡ s = ap (λ (y : Option State). unwrap_or y s) before in record {
      nested = nested;
      phase = p;
      due = due;
      boot = boot;
      operated = own_boot s o.boot boot is own;
      carried = carried ∙ is;
      was_live = ap (λ (y : State). live_boot y) at ∙ is;
      ended = subst (λ (y : Option State). NoneSince y s) (sym before) tt;
      plan = ap (λ (y : State). plan_in y o.call []) (sym at);
      waits = ap is_ask (asks_if (carries_ended s o.boot) (asks_left (plan_in s o.call []) []) x e).1;
      asked = refl;
      none_ended = refl;
    }

pub phase_begins : PhaseBegins
phase_begins s o j p x own nested due carried before e = begins_by s o j p x (live_boot s) refl own nested due carried before e

-- one more answer

first_made : (plan : List PlannedAsk) (x : Answer) → is_ask (next_of (asks_left plan [])) ≡ true → length (asks_made (with_copy (copied_bytes (value_of x)) plan) (x ∷ [])) ≡ 1
first_made [] x e = cc
first_made (p ∷ plan) x e =
    let made = made_more (with_copy (copied_bytes (value_of x)) (p ∷ plan)) [] x (writing (copied_bytes (value_of x)) p.ask) refl in
    ap (λ (asks : List Ask). length asks) made

pub one_more : (answers : List Answer) (plan : List PlannedAsk) (x : Answer) → is_ask (next_of (asks_left plan answers)) ≡ true → length (asks_made plan answers) ≡ length answers
    → length (asks_made (plan_after answers x plan) (answers ++ x ∷ [])) ≡ length (answers ++ x ∷ [])
one_more [] plan x waits asked = first_made plan x waits
one_more (b ∷ answers) plan x waits asked =
    let n = next_ask (next_of (asks_left plan (b ∷ answers))) waits in
    ap (λ (asks : List Ask). length asks) (made_more plan (b ∷ answers) x n.0 n.1) ∙ more_len (b ∷ answers) x (asks_made plan (b ∷ answers)) n.0 asked

pub plan_more : (s : State) (o : OpenOperation) (a : Asked) (x : Answer) → a.plan ≡ plan_in s o.call a.answers → (with_answer a x).plan ≡ plan_in s o.call (with_answer a x).answers
plan_more s o a x e = ap (λ (plan : List PlannedAsk). plan_after a.answers x plan) e ∙ sym (plans_follow s o.call a.answers x)

pub phase_goes_on : PhaseGoesOn
phase_goes_on s o j a x y h last e = record {
  nested = h.nested;
  phase = h.phase;
  due = h.due;
  boot = h.boot;
  operated = h.operated;
  carried = h.carried;
  was_live = h.was_live;
  ended = h.ended;
  plan = plan_more (planned_at s j) o a x h.plan;
  waits = ap is_ask e;
  asked = one_more a.answers a.plan x h.waits h.asked;
  none_ended = any_more a.answers x h.none_ended last;
}

-- the end of a boot

-- before the end of its boot the state of before is the present one
pub none_before : (s : State) (j : OpenJob) (boot : ℕ) (before : Option State) → j.before ≡ before → NoneSince before s → live_boot s ≡ Some boot → j.before ≡ None
none_before s j boot None is since live = is
none_before s j boot (Some was) is since live = absurd (some_none boot (sym live ∙ since))

exit_by : (s : State) (o : OpenOperation) (j : OpenJob) (a : Asked) (boot : ℕ) (why : EndReason) → IsPhaseAway s o j a → j.before ≡ None → live_boot s ≡ Some boot
    → (k : OpenJob) × (job_at_exit s boot (Some j) ≡ Some k) × IsPhaseAway (exit_state s why) o k a
exit_by s o j a boot why h before live =
    let at : planned_at s j ≡ s = ap (λ (y : Option State). unwrap_or y s) before in
    let own : j.boot ≡ Some boot = h.carried ∙ sym h.was_live ∙ ap (λ (y : State). live_boot y) at ∙ live in (
      record j { before = Some s },
      ap (λ (b : Bool). Some (if b then record j { before = Some s } else j)) (carries_it j.boot boot own),
      record {
        nested = record { nested = h.nested.nested; job_number = h.nested.job_number; job_caller = h.nested.job_caller; numbered = h.nested.numbered; caller = h.nested.caller };
        phase = h.phase;
        due = h.due;
        boot = h.boot;
        operated = h.operated;
        carried = h.carried;
        was_live = ap (λ (y : State). live_boot y) (sym at) ∙ h.was_live;
        ended = live_boot-exit s why;
        plan = h.plan ∙ ap (λ (y : State). plan_in y o.call a.answers) at;
        waits = h.waits;
        asked = h.asked;
        none_ended = h.none_ended;
      },
    )

pub phase_exit_keeps : PhaseExitKeeps
phase_exit_keeps s o j a boot why h live =
    let is : live_boot s ≡ Some boot = live_is (live_of s) boot live in
    exit_by s o j a boot why h (none_before s j boot j.before refl h.ended is) is

-- the plan in the present state

stays_by : (s : State) (o : OpenOperation) (j : OpenJob) (a : Asked) (before : Option State) → IsPhaseAway s o j a → j.before ≡ before → carries_ended s o.boot ≡ false
    → j.before ≡ None
stays_by s o j a None h is live = is
stays_by s o j a (Some was) h is live =
    let since : live_boot s ≡ None = subst (λ (y : Option State). NoneSince y s) is h.ended in
    absurd (true_not_false (sym (is_gone s o.boot h.boot since h.operated) ∙ live))

pub none_ended_yet : (s : State) (o : OpenOperation) (j : OpenJob) (a : Asked) → IsPhaseAway s o j a → carries_ended s o.boot ≡ false → planned_at s j ≡ s
none_ended_yet s o j a h live = ap (λ (y : Option State). unwrap_or y s) (stays_by s o j a j.before h refl live)

pub phase_plan_stays : PhasePlanStays
phase_plan_stays s o j a h live = h.plan ∙ ap (λ (y : State). plan_in y o.call a.answers) (none_ended_yet s o j a h live)

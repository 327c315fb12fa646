-- What waits for an answer still does after the end of a boot, and after the end of an operation.
use Rattle.std.proofs.Common.{◌≡◌, ℕ, [], List, Bool, true, false, not, ◌&&◌, Option, None, Some, if◌then◌else◌, unwrap_or, refl, sym, ap, ◌∙◌, subst, arith}
use Rattle.std.proofs.lemmas.Bool.Decides.{nat_tests}
use Rattle.domain_spec.specs.Types.{Call, Domain, EndReason, Live, State}
use Rattle.domain_spec.specs.Types.call
use Rattle.domain_spec.specs.Types.state
use Rattle.domain_spec.specs.declared.open.OpenJob.{OpenJob}
use Rattle.domain_spec.specs.declared.open.OpenOperation.{OpenOperation}
use Rattle.domain_spec.specs.declared.planned.PlannedAsk.{PlannedAsk}
use Rattle.domain_spec.specs.Call.{guest_plan, held_plan, is_on_stored}
use Rattle.domain_spec.specs.Cell.{planned_at}
use Rattle.domain_spec.specs.Exit.{exit_state}
use Rattle.domain_spec.specs.Fold.{carries, job_at_exit}
use Rattle.domain_spec.specs.Phase.{without_operation}
use Rattle.domain_spec.specs.Reading.{boot_in, carries_ended, is_boot_in, is_live, live_boot, live_of}
use Rattle.domain_spec.specs.Sequential.{makes_asks, meets_ended}
use Rattle.domain_spec.proofs.EndsOnce.{live_is}
use Rattle.domain_spec.proofs.ExitProofs.{live_boot-exit}
use Rattle.core_plan.specs.Along.{Asked}
use Rattle.core_mark_laws.specs.Tidy.{IsTidy, planned}
use Rattle.core_mark_laws.proofs.StoredPlans.{stored_plans}
use Rattle.core_plan.specs.Away.{IsAway, IsOfKind, IsOnGuest, NoneSince}
use Rattle.core_plan.specs.AwayLaws.{EndKeeps, ExitKeeps}

pub some_none : (n : ℕ) → Some n ≡ None → ⊥
some_none n e = cc

-- the end of a boot

-- a boot that ends while a call on a guest is away is the call's, and none ended before
ends_own : (s : State) (j : OpenJob) (boot : ℕ) (before : Option State) → j.before ≡ before → IsOnGuest s j → is_live s boot ≡ true
    → (j.before ≡ None) × (j.boot ≡ Some boot)
ends_own s j boot None e h live =
    let was : live_boot s ≡ Some boot = live_is (live_of s) boot live in
    let at : planned_at s j ≡ s = ap (λ (x : Option State). unwrap_or x s) e in
    let here : live_boot s ≡ Some h.boot = ap (λ (x : State). live_boot x) (sym at) ∙ h.was_live in
    (e, h.carried ∙ sym here ∙ was)
ends_own s j boot (Some before) e h live =
    let was : live_boot s ≡ Some boot = live_is (live_of s) boot live in
    let none : live_boot s ≡ None = subst (λ (x : Option State). NoneSince x s) e h.ended in
    absurd (some_none boot (sym was ∙ none))

pub carries_it : (carried : Option ℕ) (boot : ℕ) → carried ≡ Some boot → carries carried boot ≡ true
carries_it None boot e = cc
carries_it (Some n) boot e = let same : n ≡ boot = cc in grind (arith, nat_tests, same)

none_live : (l : Option Live) (boot : ℕ) → boot_in l ≡ None → is_boot_in l boot ≡ false
none_live None boot e = refl
none_live (Some l) boot e = cc

meets_gone : (stored : Bool) (s : State) (carried : Option ℕ) (boot : ℕ) → live_boot s ≡ None → carried ≡ Some boot → stored ≡ false → (not stored && carries_ended s carried) ≡ true
meets_gone true s carried boot none is e = cc
meets_gone false s carried boot none is e =
    ap (λ (o : Option ℕ). carries_ended s o) is ∙ ap (λ (b : Bool). not b) (none_live (live_of s) boot none)

not_both : (b : Bool) → b ≡ true → b ≡ false → ⊥
not_both b e f = cc

guest_exit : (s : State) (j : OpenJob) (boot : ℕ) (why : EndReason) → IsOnGuest s j → is_live s boot ≡ true
    → (j.boot ≡ Some boot) × IsOnGuest (exit_state s why) (record j { before = Some s }) × (planned_at s j ≡ s)
guest_exit s j boot why h live =
    let own = ends_own s j boot j.before refl h live in
    let at : planned_at s j ≡ s = ap (λ (x : Option State). unwrap_or x s) own.0 in (
      own.1,
      record {
        boot = h.boot;
        carried = h.carried;
        was_live = ap (λ (x : State). live_boot x) (sym at) ∙ h.was_live;
        ended = live_boot-exit s why;
      },
      at,
    )

-- the same call, in another state
in_state : (s next : State) (o : Option OpenOperation) (j : OpenJob) (a : Asked) (before : Option State) → IsAway s o j a
    → IsOfKind (is_on_stored j.call) next (record j { before = before }) → a.plan ≡ planned (unwrap_or before next) j.call j.boot
    → (meets_ended next j.call j.boot ≡ false → a.plan ≡ planned next j.call j.boot)
    → IsAway next o (record j { before = before }) a
in_state s next o j a before h kind plan now = record {
  own = h.own;
  begins_none = h.begins_none;
  takes_none = h.takes_none;
  kind = kind;
  plan = plan;
  now = now;
  waits = h.waits;
  asked = h.asked;
  unsent = h.unsent;
  none_ended = h.none_ended;
}

-- where its boot has ended already, it is what was planned before that
planned_then : (before : Option State) (s next : State) (c : Call) (boot : Option ℕ) (a : Asked) → a.plan ≡ planned (unwrap_or before s) c boot → a.plan ≡ planned next c boot
    → a.plan ≡ planned (unwrap_or before next) c boot
planned_then None s next c boot a was now = now
planned_then (Some x) s next c boot a was now = was

stored_exit : (own : Bool) (s : State) (o : Option OpenOperation) (j : OpenJob) (a : Asked) (boot : ℕ) (why : EndReason) → carries j.boot boot ≡ own → is_on_stored j.call ≡ true
    → IsAway s o j a → a.plan ≡ planned s j.call j.boot → a.plan ≡ planned (exit_state s why) j.call j.boot
    → (k : OpenJob) × (job_at_exit s boot (Some j) ≡ Some k) × IsAway (exit_state s why) o k a
stored_exit true s o j a boot why own is h before plan = (
  record j { before = Some s },
  ap (λ (b : Bool). Some (if b then record j { before = Some s } else j)) own,
  in_state s (exit_state s why) o j a (Some s) h (subst (λ (b : Bool). IsOfKind b (exit_state s why) (record j { before = Some s })) (sym is) tt) before (λ not_ended. plan),
)
stored_exit false s o j a boot why own is h before plan = (
  j,
  ap (λ (b : Bool). Some (if b then record j { before = Some s } else j)) own,
  in_state s (exit_state s why) o j a j.before h (subst (λ (b : Bool). IsOfKind b (exit_state s why) j) (sym is) tt) (planned_then j.before s (exit_state s why) j.call j.boot a h.plan plan) (λ not_ended. plan),
)

exit_by : (stored : Bool) (s : State) (o : Option OpenOperation) (j : OpenJob) (a : Asked) (boot : ℕ) (why : EndReason) → is_on_stored j.call ≡ stored
    → IsTidy s → IsAway s o j a → is_live s boot ≡ true
    → (k : OpenJob) × (job_at_exit s boot (Some j) ≡ Some k) × IsAway (exit_state s why) o k a
exit_by true s o j a boot why is tidy h live =
    let plan : a.plan ≡ planned s j.call j.boot = h.now (ap (λ (b : Bool). not b && carries_ended s j.boot) is) in
    stored_exit (carries j.boot boot) s o j a boot why refl is h plan (plan ∙ sym (stored_plans s j.call j.boot why tidy is))
exit_by false s o j a boot why is tidy h live =
    let g = guest_exit s j boot why (subst (λ (b : Bool). IsOfKind b s j) is h.kind) live in (
      record j { before = Some s },
      ap (λ (b : Bool). Some (if b then record j { before = Some s } else j)) (carries_it j.boot boot g.0),
      in_state s (exit_state s why) o j a (Some s) h (subst (λ (b : Bool). IsOfKind b (exit_state s why) (record j { before = Some s })) (sym is) g.1)
          (h.plan ∙ ap (λ (x : State). planned x j.call j.boot) g.2)
          (λ not_ended. absurd (not_both (meets_ended (exit_state s why) j.call j.boot) (meets_gone (is_on_stored j.call) (exit_state s why) j.boot boot (live_boot-exit s why) g.0 is) not_ended)),
    )

pub exit_keeps : ExitKeeps
exit_keeps s o j a boot why tidy h live = exit_by (is_on_stored j.call) s o j a boot why refl tidy h live

-- the end of an operation

none_if : (b : Bool) (plan : List PlannedAsk) → plan ≡ [] → (if b then plan else []) ≡ []
none_if true plan e = e
none_if false plan e = refl

no_plan : (d : Domain) (c : Call) (boot : Option ℕ) → held_plan d c ≡ [] → planned (state.Held d) c boot ≡ []
no_plan d c boot e = none_if (makes_asks (state.Held d) c boot) (held_plan d c) e

no_abort : (live : Option Live) → guest_plan live call.Abort ≡ []
no_abort None = refl
no_abort (Some l) = refl

no_limit : (live : Option Live) (rest : ℕ) → guest_plan live (call.Limit rest) ≡ []
no_limit None rest = refl
no_limit (Some l) rest = refl

no_confirm : (live : Option Live) (verdict : Bool) → guest_plan live (call.Confirm verdict) ≡ []
no_confirm None verdict = refl
no_confirm (Some l) verdict = refl

no_finish : (live : Option Live) (go : Bool) → guest_plan live (call.Finish go) ≡ []
no_finish None go = refl
no_finish (Some l) go = refl

without_plan : (d : Domain) (c : Call) (boot : Option ℕ) → planned (state.Held (record d { op = None })) c boot ≡ planned (state.Held d) c boot
without_plan d call.Abort boot = no_plan (record d { op = None }) call.Abort boot (no_abort d.live) ∙ sym (no_plan d call.Abort boot (no_abort d.live))
without_plan d (call.Limit rest) boot = no_plan (record d { op = None }) (call.Limit rest) boot (no_limit d.live rest) ∙ sym (no_plan d (call.Limit rest) boot (no_limit d.live rest))
without_plan d (call.Confirm verdict) boot = no_plan (record d { op = None }) (call.Confirm verdict) boot (no_confirm d.live verdict) ∙ sym (no_plan d (call.Confirm verdict) boot (no_confirm d.live verdict))
without_plan d (call.Finish go) boot = no_plan (record d { op = None }) (call.Finish go) boot (no_finish d.live go) ∙ sym (no_plan d (call.Finish go) boot (no_finish d.live go))
without_plan d other boot = refl

-- the end of an operation changes no plan
end_plan : (s : State) (c : Call) (boot : Option ℕ) → planned (without_operation s) c boot ≡ planned s c boot
end_plan (state.Vacant boots) c boot = refl
end_plan (state.Held d) c boot = without_plan d c boot

end_live : (s : State) → live_boot (without_operation s) ≡ live_boot s
end_live (state.Vacant boots) = refl
end_live (state.Held d) = refl

end_ended : (s : State) (carried : Option ℕ) → carries_ended (without_operation s) carried ≡ carries_ended s carried
end_ended (state.Vacant boots) carried = refl
end_ended (state.Held d) None = refl
end_ended (state.Held d) (Some boot) = refl

ended_since : (before : Option State) (s : State) → NoneSince before s → NoneSince before (without_operation s)
ended_since None s h = tt
ended_since (Some x) s h = end_live s ∙ h

live_at : (before : Option State) (s : State) → live_boot (unwrap_or before (without_operation s)) ≡ live_boot (unwrap_or before s)
live_at None s = end_live s
live_at (Some x) s = refl

plan_at : (before : Option State) (s : State) (c : Call) (boot : Option ℕ) → planned (unwrap_or before s) c boot ≡ planned (unwrap_or before (without_operation s)) c boot
plan_at None s c boot = sym (end_plan s c boot)
plan_at (Some x) s c boot = refl

kind_at : (stored : Bool) (s : State) (j : OpenJob) → IsOfKind stored s j → IsOfKind stored (without_operation s) j
kind_at true s j h = tt
kind_at false s j h = record {
  boot = h.boot;
  carried = h.carried;
  was_live = live_at j.before s ∙ h.was_live;
  ended = ended_since j.before s h.ended;
}

pub end_keeps : EndKeeps
end_keeps s o j a h = record {
  own = h.own;
  begins_none = h.begins_none;
  takes_none = h.takes_none;
  kind = kind_at (is_on_stored j.call) s j h.kind;
  plan = h.plan ∙ plan_at j.before s j.call j.boot;
  now = λ not_ended.
      h.now (sym (ap (λ (b : Bool). not (is_on_stored j.call) && b) (end_ended s j.boot)) ∙ not_ended) ∙ sym (end_plan s j.call j.boot);
  waits = h.waits;
  asked = h.asked;
  unsent = tt;
  none_ended = h.none_ended;
}

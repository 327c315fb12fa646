-- The calls on snapshots ask nothing by themselves.
use Rattle.std.proofs.Common.{◌≡◌, ℕ, zero, suc, ◌+◌, List, [], ◌++◌, Bool, true, false, if◌then◌else◌, Option, None, Some, Err, drop, take, map, length, slice_get, refl, sym, ap, ◌∙◌}
use Rattle.domain_spec.specs.Types.{Answer, Ask, Call, Live, Refusal, State}
use Rattle.domain_spec.specs.Types.call
use Rattle.domain_spec.specs.Types.state
use Rattle.domain_spec.specs.declared.planned.PlannedAsk.{PlannedAsk}
use Rattle.domain_spec.specs.Asks.{asks_left, course_at, first_bad, first_bad_at, undo_at}
use Rattle.domain_spec.specs.Call.{guest_plan, plan_of}
use Rattle.domain_spec.specs.Sequential.{makes_asks, still_asked, tested_step}
use Rattle.core_rules.specs.Cores.{core_of_call}
use Rattle.core_rules.specs.declared.cores.Core.TheVariants as core
use Rattle.core_rules.specs.declared.ends.CallEnd.{CallEnd}
use Rattle.core_rules.specs.Led.{Says}
use Rattle.core_rules.specs.Next.{next_of}
use Rattle.core_rules.specs.declared.next.Next.TheVariants as next
use Rattle.snapshot_core.specs.Judged.{Judged}

nothing_dropped : (n : ℕ) → drop {A = Ask} n [] ≡ []
nothing_dropped zero = refl
nothing_dropped (suc n) = refl

nothing_taken : (n : ℕ) → take {A = PlannedAsk} n [] ≡ []
nothing_taken zero = refl
nothing_taken (suc n) = refl

nothing_at : (n : ℕ) → slice_get {X = PlannedAsk} [] n ≡ None
nothing_at zero = refl
nothing_at (suc n) = refl

nothing_undone : (bad : Option Answer) → undo_at None bad ≡ []
nothing_undone None = refl
nothing_undone (Some bad) = refl

empty_course : (answers : List Answer) (o : Option ℕ) → course_at [] answers o ≡ []
empty_course answers None = refl
empty_course answers (Some k) =
    ap (λ plan. map (λ p. p.ask) plan ++ undo_at (slice_get [] k) (first_bad answers)) (nothing_taken (k + 1))
    ∙ ap (λ p. undo_at p (first_bad answers)) (nothing_at k) ∙ nothing_undone (first_bad answers)

pub nothing_left : (answers : List Answer) → asks_left [] answers ≡ []
nothing_left answers = ap (drop (length answers)) (empty_course answers (first_bad_at answers)) ∙ nothing_dropped (length answers)

on_guest : (live : Option Live) (c : Call) → ((l : Live) → guest_plan (Some l) c ≡ []) → guest_plan live c ≡ []
on_guest None c h = refl
on_guest (Some l) c h = h l

no_plan : (s : State) (c : Call) → core_of_call c ≡ core.Snapshot → plan_of s c ≡ []
no_plan (state.Held d) (call.SnapDelete name children) e = on_guest d.live (call.SnapDelete name children) (λ l. refl)
no_plan (state.Held d) (call.Snapshot info) e = on_guest d.live (call.Snapshot info) (λ l. refl)
no_plan (state.Held d) (call.Revert name) e = on_guest d.live (call.Revert name) (λ l. refl)
no_plan (state.Vacant boots) (call.SnapDelete name children) e = refl
no_plan (state.Vacant boots) (call.Snapshot info) e = refl
no_plan (state.Vacant boots) (call.Revert name) e = refl
no_plan s call.Suspend e = cc
no_plan s call.Resume e = cc
no_plan s call.Shutdown e = cc
no_plan s call.Reboot e = cc
no_plan s call.Destroy e = cc
no_plan s (call.Define def) e = cc
no_plan s call.Undefine e = cc
no_plan s (call.SetAutostart on) e = cc
no_plan s (call.SetMemory kib) e = cc
no_plan s (call.SetVcpus n) e = cc
no_plan s (call.Attach d) e = cc
no_plan s (call.Detach d) e = cc
no_plan s call.MemoryStats e = cc
no_plan s (call.Kick n) e = cc
no_plan s call.Abort e = cc
no_plan s (call.Limit rest) e = cc
no_plan s (call.Confirm verdict) e = cc
no_plan s (call.Finish go) e = cc
no_plan s call.Start e = cc
no_plan s (call.Create def) e = cc
no_plan s (call.Restore def running saved) e = cc
no_plan s (call.Save name) e = cc
no_plan s (call.Dump name) e = cc
no_plan s call.Perform e = cc
no_plan s (call.Prepare def running saved) e = cc

left_by : (b : Bool) (plan : List PlannedAsk) (answers : List Answer) → plan ≡ [] → (if b then asks_left plan answers else []) ≡ []
left_by true plan answers e = ap (λ p. asks_left p answers) e ∙ nothing_left answers
left_by false plan answers e = refl

pub nothing_next : (s : State) (c : Call) (boot : Option ℕ) (answers : List Answer) → core_of_call c ≡ core.Snapshot → next.Finish ≡ next_of (still_asked s c boot answers)
nothing_next s c boot answers e = ap next_of (sym (left_by (makes_asks s c boot) (plan_of s c) answers (no_plan s c e)))

-- a call that its tests refuse ends with that refusal
pub judged_ends : (end : CallEnd) (r : Option Refusal) (s : State) (c : Call) (answers : List Answer) → Judged (Err end) r → Says end (tested_step s c answers r).reply
judged_ends end None s c answers h = absurd h
judged_ends end (Some r) s c answers h = h

-- Why the number of boots never falls: a Start may raise it by one, and nothing else changes it.
use Rattle.std.proofs.Common.{◌≡◌, ℕ, ◌≤◌, List, Bool, true, false, if◌then◌else◌, Option, None, Some, refl, arith, unwrap_or}
use Rattle.domain_spec.specs.Types.{Answer, AnswerValue, Call, Domain, DomainDef, EndReason, GuestEvent, Live, OpKind, Phase, Refusal, State, Who}
use Rattle.domain_spec.specs.Types.cause
use Rattle.domain_spec.specs.Types.kind
use Rattle.domain_spec.specs.Types.reason
use Rattle.domain_spec.specs.Types.run
use Rattle.domain_spec.specs.Types.call
use Rattle.domain_spec.specs.Types.given
use Rattle.domain_spec.specs.Types.guest
use Rattle.domain_spec.specs.Types.state
use Rattle.domain_spec.specs.declared.step.CallStep.{CallStep}
use Rattle.domain_spec.specs.Asks.{first_bad, first_value}
use Rattle.domain_spec.specs.Call.{begins}
use Rattle.domain_spec.specs.Begin.{begin_state, begun, begun_with, boot_definition, first_phase, ran_there, taken_up_state}
use Rattle.domain_spec.specs.Exit.{can_resume, event_held, event_state, exit_held, exit_state}
use Rattle.domain_spec.specs.Reading.{boots_of, is_crashed, is_running, unless_gone_by, with_run}
use Rattle.domain_spec.specs.CallResult.{ended, guest_step, held_step, live_step, memory_step, new_domain, step_of}
use Rattle.domain_spec.specs.Sequential.{answered_step, ended_step, meets_ended, seq, tested_step}
use Rattle.domain_spec.specs.Tests.{refusal_of}

pub unless_gone_keeps : (d : Domain) (live : Option Live) (stored : Option DomainDef) → boots_of (unless_gone_by d live stored) ≡ d.boots
unless_gone_keeps d None None = refl
unless_gone_keeps d None (Some def) = refl
unless_gone_keeps d (Some l) None = refl
unless_gone_keeps d (Some l) (Some def) = refl

-- a domain whose guest has ended, gone or not
pub ended_keeps_boots : (d : Domain) (l : Live) (why : EndReason) → boots_of (ended d l why) ≡ d.boots
ended_keeps_boots d l why = unless_gone_keeps (record d { live = None; last = Some (l.boot, why) }) None d.stored

choice_keeps : (b : Bool) (x y : State) (n : ℕ) → boots_of x ≡ n → boots_of y ≡ n → boots_of (if b then x else y) ≡ n
choice_keeps true x y n hx hy = hx
choice_keeps false x y n hx hy = hy

memory_keeps : (s : State) (v : Option AnswerValue) → boots_of (memory_step s v).state ≡ boots_of s
memory_keeps s None = refl
memory_keeps s (Some (given.Number n)) = refl
memory_keeps s (Some other) = refl

live_keeps : (d : Domain) (l : Live) (c : Call) (answers : List Answer) → boots_of (live_step d l c answers).state ≡ d.boots
live_keeps d l call.Reboot answers = choice_keeps (is_crashed l.run) (state.Held (with_run d l run.Running)) (state.Held d) d.boots refl refl
live_keeps d l call.Destroy answers = ended_keeps_boots d l reason.Killed
live_keeps d l call.MemoryStats answers = memory_keeps (state.Held d) (first_value answers)
live_keeps d l other answers = refl

guest_keeps : (d : Domain) (l : Option Live) (c : Call) (answers : List Answer) → boots_of (guest_step d l c answers).state ≡ d.boots
guest_keeps d None c answers = refl
guest_keeps d (Some l) c answers = live_keeps d l c answers

held_keeps : (d : Domain) (c : Call) (answers : List Answer) → boots_of (held_step d c answers).state ≡ d.boots
held_keeps d (call.Define def) answers = refl
held_keeps d call.Undefine answers = unless_gone_keeps (record d { stored = None; autostart = false }) d.live None
held_keeps d (call.SetAutostart on) answers = refl
held_keeps d call.Abort answers = refl
held_keeps d (call.Limit rest) answers = refl
held_keeps d (call.SnapDelete name children) answers = refl
held_keeps d other answers = guest_keeps d d.live other answers

step_keeps : (s : State) (c : Call) (answers : List Answer) → boots_of (step_of s c answers).state ≡ boots_of s
step_keeps (state.Held d) c answers = held_keeps d c answers
step_keeps (state.Vacant boots) (call.Define def) answers = refl
step_keeps (state.Vacant boots) other answers = refl

answered_keeps : (s : State) (c : Call) (answers : List Answer) (bad : Option Answer) → boots_of (answered_step s c answers bad).state ≡ boots_of s
answered_keeps s c answers None = step_keeps s c answers
answered_keeps s c answers (Some bad) = refl

tested_keeps : (s : State) (c : Call) (answers : List Answer) (r : Option Refusal) → boots_of (tested_step s c answers r).state ≡ boots_of s
tested_keeps s c answers None = answered_keeps s c answers (first_bad answers)
tested_keeps s c answers (Some r) = refl

ended_keeps : (s : State) (c : Call) (boot : Option ℕ) → boots_of (ended_step s c boot).state ≡ boots_of s
ended_keeps s call.Destroy boot = refl
ended_keeps s other None = refl
ended_keeps s other (Some boot) = refl

either_keeps : (b : Bool) (x y : CallStep) (n : ℕ) → boots_of x.state ≡ n → boots_of y.state ≡ n → boots_of (if b then x else y).state ≡ n
either_keeps true x y n hx hy = hx
either_keeps false x y n hx hy = hy

pub boots_of-seq : (s : State) (c : Call) (boot : Option ℕ) (answers : List Answer) → boots_of (seq s c boot answers).state ≡ boots_of s
boots_of-seq s c boot answers = either_keeps (meets_ended s c boot) (ended_step s c boot) (tested_step s c answers (refusal_of s boot c)) (boots_of s) (ended_keeps s c boot) (tested_keeps s c answers (refusal_of s boot c))

begun_raises : (d : Domain) (k : OpKind) (who : Who) (ran : Bool) (first : Phase) (def : Option DomainDef) → d.boots ≤ (begun_with d k who ran first def).boots
begun_raises d k who ran first None = omega arith
begun_raises d k who ran first (Some def) = omega arith

begun_boots : (d : Domain) (who : Who) (c : Call) → d.boots ≤ (begun d who c).boots
begun_boots d who c = begun_raises d (unwrap_or (begins c) kind.Start) who (ran_there c) (first_phase d c) (boot_definition d c)

-- taken up, the domain is as it was but for its operation
pub boots_of-taken_up : (s : State) (who : Who) (c : Call) → boots_of (taken_up_state s who c) ≡ boots_of s
boots_of-taken_up (state.Vacant boots) who c = refl
boots_of-taken_up (state.Held d) who c = refl

pub boots_of-begin : (s : State) (who : Who) (c : Call) → boots_of s ≤ boots_of (begin_state s who c)
boots_of-begin (state.Held d) who c = begun_boots d who c
boots_of-begin (state.Vacant boots) who (call.Create def) = begun_boots (new_domain def boots) who (call.Create def)
boots_of-begin (state.Vacant boots) who (call.Restore def running saved) = begun_boots (new_domain def boots) who (call.Restore def running saved)
boots_of-begin (state.Vacant boots) who (call.Prepare def running saved) = begun_boots (new_domain def boots) who (call.Prepare def running saved)
boots_of-begin (state.Vacant boots) who other = omega arith

exit_keeps : (d : Domain) (l : Option Live) (why : EndReason) → boots_of (exit_held d l why) ≡ d.boots
exit_keeps d None why = refl
exit_keeps d (Some l) why = ended_keeps_boots d l why

pub boots_of-exit : (s : State) (why : EndReason) → boots_of (exit_state s why) ≡ boots_of s
boots_of-exit (state.Vacant boots) why = refl
boots_of-exit (state.Held d) why = exit_keeps d d.live why

event_keeps : (d : Domain) (l : Option Live) (e : GuestEvent) → boots_of (event_held d l e) ≡ d.boots
event_keeps d None e = refl
event_keeps d (Some l) guest.Stop = choice_keeps (is_running l.run) (state.Held (with_run d l (run.Paused cause.User))) (state.Held d) d.boots refl refl
event_keeps d (Some l) guest.Resume = choice_keeps (can_resume l.run) (state.Held (with_run d l run.Running)) (state.Held d) d.boots refl refl
event_keeps d (Some l) guest.Panic = refl
event_keeps d (Some l) (guest.DeviceDeleted slot) = refl
event_keeps d (Some l) other = refl

pub boots_of-event : (s : State) (e : GuestEvent) → boots_of (event_state s e) ≡ boots_of s
boots_of-event (state.Vacant boots) e = refl
boots_of-event (state.Held d) e = event_keeps d d.live e

-- Calls, ends of boots, events and beginnings leave a tidy domain.
use Rattle.std.proofs.Common.{◌≡◌, ℕ, List, [], ◌∷◌, Bool, true, false, is_none, if◌then◌else◌, Option, None, Some, refl, ap, ◌∙◌, unwrap_or}
use Rattle.domain_spec.specs.Types.{Answer, AnswerValue, Call, Domain, DomainDef, EndReason, GuestEvent, Live, OpKind, Phase, Refusal, State, Who}
use Rattle.domain_spec.specs.Types.call
use Rattle.domain_spec.specs.Types.cause
use Rattle.domain_spec.specs.Types.given
use Rattle.domain_spec.specs.Types.guest
use Rattle.domain_spec.specs.Types.kind
use Rattle.domain_spec.specs.Types.reason
use Rattle.domain_spec.specs.Types.run
use Rattle.domain_spec.specs.Types.state
use Rattle.domain_spec.specs.declared.step.CallStep.{CallStep}
use Rattle.domain_spec.specs.Asks.{first_bad, first_value}
use Rattle.domain_spec.specs.Begin.{begin_state, begun, begun_with, boot_definition, first_phase, ran_there, taken_up_state}
use Rattle.domain_spec.specs.Call.{begins}
use Rattle.domain_spec.specs.CallResult.{ended, guest_step, held_step, live_step, memory_step, new_domain, step_of}
use Rattle.domain_spec.specs.Exit.{can_resume, event_held, event_state, exit_held, exit_state}
use Rattle.domain_spec.specs.Phase.{without_operation}
use Rattle.domain_spec.specs.Reading.{is_crashed, is_running, unless_gone_by, with_run}
use Rattle.domain_spec.specs.Refusals.{invalid}
use Rattle.domain_spec.specs.Sequential.{answered_step, ended_step, meets_ended, seq, tested_step}
use Rattle.domain_spec.specs.Tests.{fails_if, first_refusal, refusal_of}
use Rattle.core_mark_laws.specs.Tidy.{IsTidy, OpenedIsTidy, bare_autostart}

pub choice_tidy : (b : Bool) (x y : State) → IsTidy x → IsTidy y → IsTidy (if b then x else y)
choice_tidy true x y hx hy = hx
choice_tidy false x y hx hy = hy

-- a domain that may be gone
gone_tidy : (d : Domain) (live : Option Live) (stored : Option DomainDef) → IsTidy (state.Held d) → IsTidy (unless_gone_by d live stored)
gone_tidy d None None e = refl
gone_tidy d None (Some def) e = e
gone_tidy d (Some l) None e = e
gone_tidy d (Some l) (Some def) e = e

pub ended_tidy : (d : Domain) (l : Live) (why : EndReason) → IsTidy (state.Held d) → IsTidy (ended d l why)
ended_tidy d l why e = gone_tidy (record d { live = None; last = Some (l.boot, why) }) None d.stored e

memory_tidy : (s : State) (v : Option AnswerValue) → IsTidy s → IsTidy (memory_step s v).state
memory_tidy s None e = e
memory_tidy s (Some (given.Number n)) e = e
memory_tidy s (Some other) e = e

live_tidy : (d : Domain) (l : Live) (c : Call) (answers : List Answer) → IsTidy (state.Held d) → IsTidy (live_step d l c answers).state
live_tidy d l call.Reboot answers e = choice_tidy (is_crashed l.run) (state.Held (with_run d l run.Running)) (state.Held d) e e
live_tidy d l call.Destroy answers e = ended_tidy d l reason.Killed e
live_tidy d l call.MemoryStats answers e = memory_tidy (state.Held d) (first_value answers) e
live_tidy d l other answers e = e

guest_tidy : (d : Domain) (l : Option Live) (c : Call) (answers : List Answer) → IsTidy (state.Held d) → IsTidy (guest_step d l c answers).state
guest_tidy d None c answers e = e
guest_tidy d (Some l) c answers e = live_tidy d l c answers e

-- the flag is set only where a definition is stored

stored_tidy : (d : Domain) (def : DomainDef) (on : Bool) → d.stored ≡ Some def → IsTidy (state.Held (record d { autostart = on }))
stored_tidy d def on is = ap (λ (o : Option DomainDef). if is_none o then on else false) is

answered_auto : (d : Domain) (def : DomainDef) (on : Bool) (answers : List Answer) (bad : Option Answer) → d.stored ≡ Some def → IsTidy (state.Held d)
    → IsTidy (answered_step (state.Held d) (call.SetAutostart on) answers bad).state
answered_auto d def on answers None is e = stored_tidy d def on is
answered_auto d def on answers (Some bad) is e = e

auto_tidy : (d : Domain) (on : Bool) (answers : List Answer) (stored : Option DomainDef) → d.stored ≡ stored → IsTidy (state.Held d)
    → IsTidy (tested_step (state.Held d) (call.SetAutostart on) answers (first_refusal (fails_if (is_none d.stored) (invalid d.live) ∷ []))).state
auto_tidy d on answers None is e =
    ap (λ (o : Option DomainDef). bare_autostart (tested_step (state.Held d) (call.SetAutostart on) answers (first_refusal (fails_if (is_none o) (invalid d.live) ∷ []))).state) is ∙ e
auto_tidy d on answers (Some def) is e =
    ap (λ (o : Option DomainDef). bare_autostart (tested_step (state.Held d) (call.SetAutostart on) answers (first_refusal (fails_if (is_none o) (invalid d.live) ∷ []))).state) is
    ∙ answered_auto d def on answers (first_bad answers) is e

undefined_tidy : (d : Domain) (live : Option Live) → IsTidy (unless_gone_by (record d { stored = None; autostart = false }) live None)
undefined_tidy d None = refl
undefined_tidy d (Some l) = refl

-- any other call, whatever its tests say
held_tidy : (d : Domain) (c : Call) (answers : List Answer) → IsTidy (state.Held d) → ((on : Bool) → c ≡ call.SetAutostart on → ⊥) → IsTidy (held_step d c answers).state
held_tidy d (call.Define def) answers e other = refl
held_tidy d call.Undefine answers e other = undefined_tidy d d.live
held_tidy d (call.SetAutostart on) answers e other = absurd (other on refl)
held_tidy d call.Abort answers e other = e
held_tidy d (call.Limit rest) answers e other = e
held_tidy d (call.SnapDelete name children) answers e other = e
held_tidy d c answers e other = guest_tidy d d.live c answers e

step_tidy : (s : State) (c : Call) (answers : List Answer) → IsTidy s → ((on : Bool) → c ≡ call.SetAutostart on → ⊥) → IsTidy (step_of s c answers).state
step_tidy (state.Held d) c answers e other = held_tidy d c answers e other
step_tidy (state.Vacant boots) (call.Define def) answers e other = refl
step_tidy (state.Vacant boots) c answers e other = refl

answered_tidy : (s : State) (c : Call) (answers : List Answer) (bad : Option Answer) → IsTidy s → ((on : Bool) → c ≡ call.SetAutostart on → ⊥) → IsTidy (answered_step s c answers bad).state
answered_tidy s c answers None e other = step_tidy s c answers e other
answered_tidy s c answers (Some bad) e other = e

plain_tidy : (s : State) (c : Call) (answers : List Answer) (r : Option Refusal) → IsTidy s → ((on : Bool) → c ≡ call.SetAutostart on → ⊥) → IsTidy (tested_step s c answers r).state
plain_tidy s c answers None e other = answered_tidy s c answers (first_bad answers) e other
plain_tidy s c answers (Some r) e other = e

set_tidy : (s : State) (on : Bool) (boot : Option ℕ) (answers : List Answer) → IsTidy s → IsTidy (tested_step s (call.SetAutostart on) answers (refusal_of s boot (call.SetAutostart on))).state
set_tidy (state.Vacant boots) on boot answers e = refl
set_tidy (state.Held d) on boot answers e = auto_tidy d on answers d.stored refl e

tested_tidy : (s : State) (c : Call) (boot : Option ℕ) (answers : List Answer) → IsTidy s → IsTidy (tested_step s c answers (refusal_of s boot c)).state
tested_tidy s (call.SetAutostart on) boot answers e = set_tidy s on boot answers e
tested_tidy s call.Suspend boot answers e = plain_tidy s call.Suspend answers (refusal_of s boot call.Suspend) e (λ on is. cc)
tested_tidy s call.Resume boot answers e = plain_tidy s call.Resume answers (refusal_of s boot call.Resume) e (λ on is. cc)
tested_tidy s call.Shutdown boot answers e = plain_tidy s call.Shutdown answers (refusal_of s boot call.Shutdown) e (λ on is. cc)
tested_tidy s call.Reboot boot answers e = plain_tidy s call.Reboot answers (refusal_of s boot call.Reboot) e (λ on is. cc)
tested_tidy s call.Destroy boot answers e = plain_tidy s call.Destroy answers (refusal_of s boot call.Destroy) e (λ on is. cc)
tested_tidy s c boot answers e = plain_tidy s c answers (refusal_of s boot c) e (λ on is. cc)

ended_step_tidy : (s : State) (c : Call) (boot : Option ℕ) → IsTidy s → IsTidy (ended_step s c boot).state
ended_step_tidy s call.Destroy boot e = e
ended_step_tidy s other None e = e
ended_step_tidy s other (Some boot) e = e

either_tidy : (b : Bool) (x y : CallStep) → IsTidy x.state → IsTidy y.state → IsTidy (if b then x else y).state
either_tidy true x y hx hy = hx
either_tidy false x y hx hy = hy

pub seq_tidy : (s : State) (c : Call) (boot : Option ℕ) (answers : List Answer) → IsTidy s → IsTidy (seq s c boot answers).state
seq_tidy s c boot answers e =
    either_tidy (meets_ended s c boot) (ended_step s c boot) (tested_step s c answers (refusal_of s boot c)) (ended_step_tidy s c boot e) (tested_tidy s c boot answers e)

-- operations that begin, are taken up and end

begun_tidy : (d : Domain) (k : OpKind) (who : Who) (ran : Bool) (first : Phase) (def : Option DomainDef) → IsTidy (state.Held d) → IsTidy (state.Held (begun_with d k who ran first def))
begun_tidy d k who ran first None e = e
begun_tidy d k who ran first (Some def) e = e

begun_so : (d : Domain) (who : Who) (c : Call) → IsTidy (state.Held d) → IsTidy (state.Held (begun d who c))
begun_so d who c e = begun_tidy d (unwrap_or (begins c) kind.Start) who (ran_there c) (first_phase d c) (boot_definition d c) e

pub begin_tidy : (s : State) (who : Who) (c : Call) → IsTidy s → IsTidy (begin_state s who c)
begin_tidy (state.Held d) who c e = begun_so d who c e
begin_tidy (state.Vacant boots) who (call.Create def) e = begun_so (new_domain def boots) who (call.Create def) refl
begin_tidy (state.Vacant boots) who (call.Restore def running saved) e = begun_so (new_domain def boots) who (call.Restore def running saved) refl
begin_tidy (state.Vacant boots) who (call.Prepare def running saved) e = begun_so (new_domain def boots) who (call.Prepare def running saved) refl
begin_tidy (state.Vacant boots) who other e = refl

pub taken_tidy : (s : State) (who : Who) (c : Call) → IsTidy s → IsTidy (taken_up_state s who c)
taken_tidy (state.Vacant boots) who c e = e
taken_tidy (state.Held d) who c e = e

pub without_tidy : (s : State) → IsTidy s → IsTidy (without_operation s)
without_tidy (state.Vacant boots) e = e
without_tidy (state.Held d) e = e

-- ends of boots, and events

exit_by : (d : Domain) (l : Option Live) (why : EndReason) → IsTidy (state.Held d) → IsTidy (exit_held d l why)
exit_by d None why e = e
exit_by d (Some l) why e = ended_tidy d l why e

pub exit_tidy : (s : State) (why : EndReason) → IsTidy s → IsTidy (exit_state s why)
exit_tidy (state.Vacant boots) why e = e
exit_tidy (state.Held d) why e = exit_by d d.live why e

event_by : (d : Domain) (l : Option Live) (g : GuestEvent) → IsTidy (state.Held d) → IsTidy (event_held d l g)
event_by d None g e = e
event_by d (Some l) guest.Stop e = choice_tidy (is_running l.run) (state.Held (with_run d l (run.Paused cause.User))) (state.Held d) e e
event_by d (Some l) guest.Resume e = choice_tidy (can_resume l.run) (state.Held (with_run d l run.Running)) (state.Held d) e e
event_by d (Some l) other e = e

pub event_tidy : (s : State) (g : GuestEvent) → IsTidy s → IsTidy (event_state s g)
event_tidy (state.Vacant boots) g e = e
event_tidy (state.Held d) g e = event_by d d.live g e

pub opened_tidy : OpenedIsTidy
opened_tidy None autostart = refl
opened_tidy (Some def) autostart = refl

-- Calls and events leave the domain's operation at its phase, while a guest is live.
use Rattle.std.proofs.Common.{◌≡◌, ℕ, ◌⊎◌, inl, inr, List, Bool, true, false, if◌then◌else◌, Option, None, Some, option_map, refl}
use Rattle.domain_spec.specs.Types.{Answer, AnswerValue, Call, Domain, EndReason, GuestEvent, Live, Op, Phase, Refusal, State}
use Rattle.domain_spec.specs.Types.call
use Rattle.domain_spec.specs.Types.cause
use Rattle.domain_spec.specs.Types.given
use Rattle.domain_spec.specs.Types.guest
use Rattle.domain_spec.specs.Types.reason
use Rattle.domain_spec.specs.Types.run
use Rattle.domain_spec.specs.Types.state
use Rattle.domain_spec.specs.declared.step.CallStep.{CallStep}
use Rattle.domain_spec.specs.Asks.{first_bad, first_value}
use Rattle.domain_spec.specs.Begin.{due_in, due_phase}
use Rattle.domain_spec.specs.CallResult.{aborting, ended, guest_step, held_step, live_step, memory_step, step_of, with_limit}
use Rattle.domain_spec.specs.Exit.{can_resume, event_held, event_state}
use Rattle.domain_spec.specs.Reading.{is_crashed, is_running, live_boot, unless_gone_by, with_run}
use Rattle.domain_spec.specs.Sequential.{answered_step, ended_step, meets_ended, seq, tested_step}
use Rattle.domain_spec.specs.Tests.{refusal_of}
use Rattle.domain_spec.proofs.ExitProofs.{gone}

-- no guest is live, or this phase is due
abbrev pub IsDue : Phase → State → Type 0
IsDue p s = (live_boot s ≡ None) ⊎ (due_phase s ≡ p)

choice_due : (b : Bool) (x y : State) (p : Phase) → IsDue p x → IsDue p y → IsDue p (if b then x else y)
choice_due true x y p hx hy = hx
choice_due false x y p hx hy = hy

either_due : (b : Bool) (x y : CallStep) (p : Phase) → IsDue p x.state → IsDue p y.state → IsDue p (if b then x else y).state
either_due true x y p hx hy = hx
either_due false x y p hx hy = hy

ended_due : (d : Domain) (l : Live) (why : EndReason) (p : Phase) → IsDue p (ended d l why)
ended_due d l why p = inl (gone d l why d.stored)

undefined_due : (d : Domain) (live : Option Live) → IsDue (due_in d.op) (unless_gone_by d live None)
undefined_due d None = inl refl
undefined_due d (Some l) = inr refl

aborting_due : (op : Option Op) → due_in (aborting op) ≡ due_in op
aborting_due None = refl
aborting_due (Some op) = refl

limit_due : (op : Option Op) (rest : ℕ) → due_in (option_map (with_limit rest) op) ≡ due_in op
limit_due None rest = refl
limit_due (Some op) rest = refl

memory_due : (s : State) (v : Option AnswerValue) → IsDue (due_phase s) (memory_step s v).state
memory_due s None = inr refl
memory_due s (Some (given.Number n)) = inr refl
memory_due s (Some other) = inr refl

live_due : (d : Domain) (l : Live) (c : Call) (answers : List Answer) → IsDue (due_in d.op) (live_step d l c answers).state
live_due d l call.Reboot answers = choice_due (is_crashed l.run) (state.Held (with_run d l run.Running)) (state.Held d) (due_in d.op) (inr refl) (inr refl)
live_due d l call.Destroy answers = ended_due d l reason.Killed (due_in d.op)
live_due d l call.MemoryStats answers = memory_due (state.Held d) (first_value answers)
live_due d l other answers = inr refl

guest_due : (d : Domain) (live : Option Live) (c : Call) (answers : List Answer) → IsDue (due_in d.op) (guest_step d live c answers).state
guest_due d None c answers = inr refl
guest_due d (Some l) c answers = live_due d l c answers

held_due : (d : Domain) (c : Call) (answers : List Answer) → IsDue (due_in d.op) (held_step d c answers).state
held_due d (call.Define def) answers = inr refl
held_due d call.Undefine answers = undefined_due (record d { stored = None; autostart = false }) d.live
held_due d (call.SetAutostart on) answers = inr refl
held_due d call.Abort answers = inr (aborting_due d.op)
held_due d (call.Limit rest) answers = inr (limit_due d.op rest)
held_due d (call.SnapDelete name children) answers = inr refl
held_due d other answers = guest_due d d.live other answers

step_due : (s : State) (c : Call) (answers : List Answer) → IsDue (due_phase s) (step_of s c answers).state
step_due (state.Held d) c answers = held_due d c answers
step_due (state.Vacant boots) (call.Define def) answers = inl refl
step_due (state.Vacant boots) other answers = inl refl

answered_due : (s : State) (c : Call) (answers : List Answer) (bad : Option Answer) → IsDue (due_phase s) (answered_step s c answers bad).state
answered_due s c answers None = step_due s c answers
answered_due s c answers (Some bad) = inr refl

tested_due : (s : State) (c : Call) (answers : List Answer) (r : Option Refusal) → IsDue (due_phase s) (tested_step s c answers r).state
tested_due s c answers None = answered_due s c answers (first_bad answers)
tested_due s c answers (Some r) = inr refl

ended_step_due : (s : State) (c : Call) (boot : Option ℕ) → IsDue (due_phase s) (ended_step s c boot).state
ended_step_due s call.Destroy boot = inr refl
ended_step_due s other None = inr refl
ended_step_due s other (Some boot) = inr refl

pub seq_due : (s : State) (c : Call) (boot : Option ℕ) (answers : List Answer) → IsDue (due_phase s) (seq s c boot answers).state
seq_due s c boot answers =
    either_due (meets_ended s c boot) (ended_step s c boot) (tested_step s c answers (refusal_of s boot c)) (due_phase s)
    (ended_step_due s c boot) (tested_due s c answers (refusal_of s boot c))

event_by : (d : Domain) (live : Option Live) (e : GuestEvent) → IsDue (due_in d.op) (event_held d live e)
event_by d None e = inr refl
event_by d (Some l) guest.Stop = choice_due (is_running l.run) (state.Held (with_run d l (run.Paused cause.User))) (state.Held d) (due_in d.op) (inr refl) (inr refl)
event_by d (Some l) guest.Resume = choice_due (can_resume l.run) (state.Held (with_run d l run.Running)) (state.Held d) (due_in d.op) (inr refl) (inr refl)
event_by d (Some l) other = inr refl

pub event_due : (s : State) (e : GuestEvent) → IsDue (due_phase s) (event_state s e)
event_due (state.Vacant boots) e = inl refl
event_due (state.Held d) e = event_by d d.live e

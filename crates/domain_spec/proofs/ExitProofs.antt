-- A call leaves the live boot as it is, or ends it.
use Rattle.std.proofs.Common.{◌≡◌, ℕ, ◌⊎◌, inl, inr, List, Bool, true, false, if◌then◌else◌, Option, None, Some, refl, ap, position, nat_eq}
use Rattle.domain_spec.specs.Types.{Answer, AnswerValue, Call, DeviceDef, Domain, DomainDef, EndReason, GuestEvent, Live, Refusal, State}
use Rattle.domain_spec.specs.Types.call
use Rattle.domain_spec.specs.Types.cause
use Rattle.domain_spec.specs.Types.device
use Rattle.domain_spec.specs.Types.given
use Rattle.domain_spec.specs.Types.guest
use Rattle.domain_spec.specs.Types.reason
use Rattle.domain_spec.specs.Types.run
use Rattle.domain_spec.specs.Types.state
use Rattle.domain_spec.specs.declared.step.CallStep.{CallStep}
use Rattle.domain_spec.specs.Asks.{first_bad, first_value}
use Rattle.domain_spec.specs.Devices.{device_like, free_slot, without_placed, without_slot}
use Rattle.domain_spec.specs.Exit.{can_resume, event_held, event_state, exit_held, exit_state}
use Rattle.domain_spec.specs.Reading.{boot_in, is_crashed, is_running, live_boot, unless_gone_by, with_run}
use Rattle.domain_spec.specs.CallResult.{attached, detached, ended, guest_step, held_step, live_step, memory_step, step_of}
use Rattle.domain_spec.specs.Sequential.{answered_step, ended_step, meets_ended, seq, tested_step}
use Rattle.domain_spec.specs.Tests.{refusal_of}

-- the live boot is this one still, or none is
abbrev pub Stays : Option ℕ → State → Type 0
Stays boot s = (live_boot s ≡ boot) ⊎ (live_boot s ≡ None)

pub gone : (d : Domain) (l : Live) (why : EndReason) (stored : Option DomainDef) → live_boot (unless_gone_by (record d { live = None; last = Some (l.boot, why) }) None stored) ≡ None
gone d l why None = refl
gone d l why (Some def) = refl

pub ended_stays : (d : Domain) (l : Live) (why : EndReason) (boot : Option ℕ) → Stays boot (ended d l why)
ended_stays d l why boot = inr (gone d l why d.stored)

undefined_stays : (d : Domain) (live : Option Live) → Stays (boot_in d.live) (unless_gone_by d live None)
undefined_stays d None = inr refl
undefined_stays d (Some l) = inl refl

pub choice_stays : (b : Bool) (x y : State) (boot : Option ℕ) → Stays boot x → Stays boot y → Stays boot (if b then x else y)
choice_stays true x y boot hx hy = hx
choice_stays false x y boot hx hy = hy

attached_boot : (l : Live) (slot : Option ℕ) (new : DeviceDef) → (attached l slot new).boot ≡ l.boot
attached_boot l None new = refl
attached_boot l (Some slot) (device.Disk d) = refl
attached_boot l (Some slot) (device.Interface i) = refl

placed_boot : (l : Live) (place : Option ℕ) → (without_placed l place).boot ≡ l.boot
placed_boot l None = refl
placed_boot l (Some place) = refl

slot_boot : (l : Live) (slot : ℕ) → (without_slot l slot).boot ≡ l.boot
slot_boot l slot = placed_boot l (position (λ used. nat_eq used slot) l.slots)

detached_boot : (l : Live) (placed : Option (ℕ × DeviceDef)) → (detached l placed).boot ≡ l.boot
detached_boot l None = refl
detached_boot l (Some placed) = slot_boot l placed.0

memory_stays : (s : State) (v : Option AnswerValue) (boot : Option ℕ) → live_boot s ≡ boot → Stays boot (memory_step s v).state
memory_stays s None boot e = inl e
memory_stays s (Some (given.Number n)) boot e = inl e
memory_stays s (Some other) boot e = inl e

live_stays : (d : Domain) (l : Live) (c : Call) (answers : List Answer) → boot_in d.live ≡ Some l.boot → Stays (Some l.boot) (live_step d l c answers).state
live_stays d l call.Suspend answers e = inl refl
live_stays d l call.Resume answers e = inl refl
live_stays d l call.Reboot answers e = choice_stays (is_crashed l.run) (state.Held (with_run d l run.Running)) (state.Held d) (Some l.boot) (inl refl) (inl e)
live_stays d l call.Destroy answers e = ended_stays d l reason.Killed (Some l.boot)
live_stays d l (call.SetMemory kib) answers e = inl refl
live_stays d l (call.SetVcpus n) answers e = inl refl
live_stays d l (call.Attach new) answers e = inl (ap (λ (n : ℕ). Some n) (attached_boot l (free_slot l.slots) new))
live_stays d l (call.Detach old) answers e = inl (ap (λ (n : ℕ). Some n) (detached_boot l (device_like l old)))
live_stays d l call.MemoryStats answers e = memory_stays (state.Held d) (first_value answers) (Some l.boot) e
live_stays d l other answers e = inl e

guest_stays : (d : Domain) (live : Option Live) (c : Call) (answers : List Answer) → d.live ≡ live → Stays (boot_in live) (guest_step d live c answers).state
guest_stays d None c answers e = inl (ap boot_in e)
guest_stays d (Some l) c answers e = live_stays d l c answers (ap boot_in e)

held_stays : (d : Domain) (c : Call) (answers : List Answer) → Stays (boot_in d.live) (held_step d c answers).state
held_stays d (call.Define def) answers = inl refl
held_stays d call.Undefine answers = undefined_stays (record d { stored = None; autostart = false }) d.live
held_stays d (call.SetAutostart on) answers = inl refl
held_stays d call.Abort answers = inl refl
held_stays d (call.Limit rest) answers = inl refl
held_stays d (call.SnapDelete name children) answers = inl refl
held_stays d other answers = guest_stays d d.live other answers refl

step_stays : (s : State) (c : Call) (answers : List Answer) → Stays (live_boot s) (step_of s c answers).state
step_stays (state.Held d) c answers = held_stays d c answers
step_stays (state.Vacant boots) (call.Define def) answers = inl refl
step_stays (state.Vacant boots) other answers = inl refl

answered_stays : (s : State) (c : Call) (answers : List Answer) (bad : Option Answer) → Stays (live_boot s) (answered_step s c answers bad).state
answered_stays s c answers None = step_stays s c answers
answered_stays s c answers (Some bad) = inl refl

tested_stays : (s : State) (c : Call) (answers : List Answer) (r : Option Refusal) → Stays (live_boot s) (tested_step s c answers r).state
tested_stays s c answers None = answered_stays s c answers (first_bad answers)
tested_stays s c answers (Some r) = inl refl

ended_step_stays : (s : State) (c : Call) (boot : Option ℕ) → Stays (live_boot s) (ended_step s c boot).state
ended_step_stays s call.Destroy boot = inl refl
ended_step_stays s other None = inl refl
ended_step_stays s other (Some boot) = inl refl

either_stays : (b : Bool) (x y : CallStep) (boot : Option ℕ) → Stays boot x.state → Stays boot y.state → Stays boot (if b then x else y).state
either_stays true x y boot hx hy = hx
either_stays false x y boot hx hy = hy

pub live_boot-seq : (s : State) (c : Call) (boot : Option ℕ) (answers : List Answer) → Stays (live_boot s) (seq s c boot answers).state
live_boot-seq s c boot answers =
    either_stays (meets_ended s c boot) (ended_step s c boot) (tested_step s c answers (refusal_of s boot c)) (live_boot s)
    (ended_step_stays s c boot) (tested_stays s c answers (refusal_of s boot c))

exit_gone : (d : Domain) (live : Option Live) (why : EndReason) → d.live ≡ live → live_boot (exit_held d live why) ≡ None
exit_gone d None why e = ap boot_in e
exit_gone d (Some l) why e = gone d l why d.stored

-- where a boot has ended, none is live
pub live_boot-exit : (s : State) (why : EndReason) → live_boot (exit_state s why) ≡ None
live_boot-exit (state.Vacant boots) why = refl
live_boot-exit (state.Held d) why = exit_gone d d.live why refl

event_stays : (d : Domain) (live : Option Live) (e : GuestEvent) → d.live ≡ live → Stays (boot_in live) (event_held d live e)
event_stays d None e h = inl (ap boot_in h)
event_stays d (Some l) guest.Stop h = choice_stays (is_running l.run) (state.Held (with_run d l (run.Paused cause.User))) (state.Held d) (Some l.boot) (inl refl) (inl (ap boot_in h))
event_stays d (Some l) guest.Resume h = choice_stays (can_resume l.run) (state.Held (with_run d l run.Running)) (state.Held d) (Some l.boot) (inl refl) (inl (ap boot_in h))
event_stays d (Some l) guest.Panic h = inl refl
event_stays d (Some l) (guest.DeviceDeleted slot) h = inl (ap (λ (n : ℕ). Some n) (slot_boot l slot))
event_stays d (Some l) other h = inl (ap boot_in h)

pub live_boot-event : (s : State) (e : GuestEvent) → Stays (live_boot s) (event_state s e)
live_boot-event (state.Vacant boots) e = inl refl
live_boot-event (state.Held d) e = event_stays d d.live e refl

-- A phase leaves the live boot as it is, or ends it; a Start makes the next one.
use Rattle.std.proofs.Common.{◌≡◌, ℕ, ◌+◌, ◌⊎◌, inl, inr, List, [], Bool, true, false, if◌then◌else◌, Option, None, Some, refl, ap, unwrap_or}
use Rattle.domain_spec.specs.Types.{Answer, AnswerValue, Call, Domain, DomainDef, Live, Op, OpKind, Phase, Refusal, Reply, SnapInfo, State, Who}
use Rattle.domain_spec.specs.Types.call
use Rattle.domain_spec.specs.Types.cause
use Rattle.domain_spec.specs.Types.kind
use Rattle.domain_spec.specs.Types.phase
use Rattle.domain_spec.specs.Types.reason
use Rattle.domain_spec.specs.Types.reply
use Rattle.domain_spec.specs.Types.run
use Rattle.domain_spec.specs.Types.state
use Rattle.domain_spec.specs.declared.loaded.Loaded.{Loaded}
use Rattle.domain_spec.specs.declared.open.OpenOperation.{OpenOperation}
use Rattle.domain_spec.specs.declared.step.PhaseStep.{PhaseStep}
use Rattle.domain_spec.specs.Asks.{first_bad, first_value, is_undone}
use Rattle.domain_spec.specs.Begin.{begin_state, begun, begun_with, boot_definition, first_phase, ran_there, taken_up_state}
use Rattle.domain_spec.specs.Call.{begins}
use Rattle.domain_spec.specs.CopyResult.{cancels, current_after, left_in, loaded_active, loaded_new, loaded_with, over, poll_done, poll_step}
use Rattle.domain_spec.specs.Migration.{migration_done}
use Rattle.domain_spec.specs.Operation.{led_to, live_phase_done, quit_done, take_done}
use Rattle.domain_spec.specs.Phase.{answered_phase, ended_reply, inactive_phase_done, inactive_phase_refused, inactive_take_done, inactive_taken, live_phase_refused, phase_done, phase_in, phase_of, phase_on, phase_refused, start_failed, without_operation}
use Rattle.domain_spec.specs.PhaseAsks.{is_given_up, loaded_of, resumes}
use Rattle.domain_spec.specs.Reading.{boot_in, boots_of, carries_ended, is_running, live_boot, with_run}
use Rattle.domain_spec.specs.Refusals.{aborted, failure_of, monitor_lost, stalled}
use Rattle.domain_spec.specs.CallResult.{new_domain}
use Rattle.domain_spec.proofs.ExitProofs.{Stays, ended_stays}

one_of : (b : Bool) (x y : PhaseStep) (boot : Option ℕ) → Stays boot x.state → Stays boot y.state → Stays boot (if b then x else y).state
one_of true x y boot hx hy = hx
one_of false x y boot hx hy = hy

domain_of : (b : Bool) (x y : Domain) (boot : Option ℕ) → boot_in x.live ≡ boot → boot_in y.live ≡ boot → boot_in (if b then x else y).live ≡ boot
domain_of true x y boot hx hy = hx
domain_of false x y boot hx hy = hy

load_stays : (d : Domain) (l : Live) (op : Op) (c : Call) (o : Option Loaded) → boot_in d.live ≡ Some l.boot → Stays (Some l.boot) (loaded_with d l op c o).state
load_stays d l op c None e = inl e
load_stays d l op c (Some loaded) e = one_of op.new_boot (loaded_new d l c loaded) (loaded_active d l c loaded) (Some l.boot) (inl refl) (inl refl)

poll_stays : (d : Domain) (op : Op) (v : Option AnswerValue) (boot : Option ℕ) → boot_in d.live ≡ boot → Stays boot (poll_step d op v).state
poll_stays d op v boot e =
    let stall = cancels d op (stalled (unwrap_or op.remaining 0)) in
    let polled = poll_done d op (left_in v) in
    one_of op.abort (cancels d op aborted) (if is_given_up op then stall else polled) boot (inl e)
    (one_of (is_given_up op) stall polled boot (inl e) (inl e))

take_stays : (d : Domain) (l : Live) (op : Op) (c : Call) (answers : List Answer) → boot_in d.live ≡ Some l.boot → Stays (Some l.boot) (take_done d l op c answers).state
take_stays d l op (call.Save name) answers e = inl e
take_stays d l op (call.Snapshot info) answers e = inl (domain_of (resumes l op) (with_run d l run.Running) d (Some l.boot) refl e)
take_stays d l op other answers e = inl (domain_of (resumes l op) (with_run d l run.Running) d (Some l.boot) refl e)

quit_stays : (d : Domain) (l : Live) (c : Call) (boot : Option ℕ) → Stays boot (quit_done d l c).state
quit_stays d l (call.Save name) boot = ended_stays d l reason.Saved boot
quit_stays d l other boot = ended_stays (record d { current = current_after d other }) l reason.FromSnapshot boot

migration_stays : (d : Domain) (l : Live) (op : Op) (c : Call) (answers : List Answer) (led : Reply) (p : Phase) → boot_in d.live ≡ Some l.boot → Stays (Some l.boot) (migration_done d l op c answers led p).state
migration_stays d l op c answers led phase.MigrateTake e = inl refl
migration_stays d l op c answers led phase.MigrateQuit e = ended_stays d l reason.Migrated (Some l.boot)
migration_stays d l op c answers led phase.MigrateDrop e = ended_stays d l reason.Failed (Some l.boot)
migration_stays d l op c answers led phase.MigrateBack e = inl refl
migration_stays d l op c answers led phase.MigrateRun e = inl refl
migration_stays d l op c answers led other e = inl e

live_done_stays : (d : Domain) (l : Live) (op : Op) (c : Call) (answers : List Answer) (p : Phase) → boot_in d.live ≡ Some l.boot → Stays (Some l.boot) (live_phase_done d l op c answers p).state
live_done_stays d l op c answers phase.Nothing e = inl e
live_done_stays d l op c answers phase.Make e = inl e
live_done_stays d l op c answers phase.Run e = inl refl
live_done_stays d l op c answers phase.Load e = load_stays d l op c (loaded_of d c) e
live_done_stays d l op c answers phase.Copy e = inl (domain_of (is_running l.run) (with_run d l (run.Paused cause.Job)) d (Some l.boot) refl e)
live_done_stays d l op c answers phase.Poll e = poll_stays d op (first_value answers) (Some l.boot) e
live_done_stays d l op c answers phase.Take e = take_stays d l op c answers e
live_done_stays d l op c answers phase.Quit e = quit_stays d l c (Some l.boot)
live_done_stays d l op c answers phase.Cancel e = inl (domain_of (resumes l op) (with_run d l run.Running) d (Some l.boot) refl e)
live_done_stays d l op c answers other e = migration_stays d l op c answers (led_to op) other e

taken_stays : (d : Domain) (info : SnapInfo) (def : Option DomainDef) (boot : Option ℕ) → boot_in d.live ≡ boot → Stays boot (inactive_taken d info def).state
taken_stays d info None boot e = inl e
taken_stays d info (Some def) boot e = inl e

inactive_take_stays : (d : Domain) (c : Call) (boot : Option ℕ) → boot_in d.live ≡ boot → Stays boot (inactive_take_done d c).state
inactive_take_stays d (call.Snapshot info) boot e = taken_stays d info d.stored boot e
inactive_take_stays d other boot e = inl e

inactive_stays : (d : Domain) (op : Op) (c : Call) (p : Phase) (boot : Option ℕ) → boot_in d.live ≡ boot → Stays boot (inactive_phase_done d op c p).state
inactive_stays d op c phase.Take boot e = inactive_take_stays d c boot e
inactive_stays d op c phase.Nothing boot e = inl e
inactive_stays d op c other boot e = inl e

done_stays : (d : Domain) (live : Option Live) (op : Op) (c : Call) (answers : List Answer) → d.live ≡ live → Stays (boot_in live) (phase_done d live op c answers).state
done_stays d None op c answers e = inactive_stays d op c op.phase None (ap boot_in e)
done_stays d (Some l) op c answers e = live_done_stays d l op c answers op.phase (ap boot_in e)

live_refused_stays : (d : Domain) (l : Live) (op : Op) (r : Refusal) (p : Phase) → boot_in d.live ≡ Some l.boot → Stays (Some l.boot) (live_phase_refused d l op r p).state
live_refused_stays d l op r phase.Make e = ended_stays d l reason.Failed (Some l.boot)
live_refused_stays d l op r phase.Run e = ended_stays d l reason.Failed (Some l.boot)
live_refused_stays d l op r phase.Load e = one_of op.new_boot (start_failed d l r) (over (state.Held d) [] (reply.No r)) (Some l.boot) (ended_stays d l reason.Failed (Some l.boot)) (inl e)
live_refused_stays d l op r phase.MigrateLoad e = ended_stays d l reason.Failed (Some l.boot)
live_refused_stays d l op r other e = inl e

inactive_refused_stays : (d : Domain) (op : Op) (r : Refusal) (p : Phase) (boot : Option ℕ) → boot_in d.live ≡ boot → Stays boot (inactive_phase_refused d op r p).state
inactive_refused_stays d op r phase.Take boot e = inl e
inactive_refused_stays d op r phase.Cancel boot e = inl e
inactive_refused_stays d op r other boot e = inl e

refused_stays : (d : Domain) (live : Option Live) (op : Op) (r : Refusal) → d.live ≡ live → Stays (boot_in live) (phase_refused d live op r).state
refused_stays d None op r e = inactive_refused_stays d op r op.phase None (ap boot_in e)
refused_stays d (Some l) op r e = live_refused_stays d l op r op.phase (ap boot_in e)

answered_stays : (d : Domain) (op : Op) (c : Call) (answers : List Answer) (bad : Option Answer) → Stays (boot_in d.live) (answered_phase d op c answers bad).state
answered_stays d op c answers None = done_stays d d.live op c answers refl
answered_stays d op c answers (Some bad) =
    one_of (is_undone bad) (phase_refused d d.live op (failure_of bad)) (over (state.Held d) [] (reply.No monitor_lost)) (boot_in d.live)
    (refused_stays d d.live op (failure_of bad) refl) (inl refl)

on_stays : (d : Domain) (op : Option Op) (c : Call) (answers : List Answer) → Stays (boot_in d.live) (phase_on d op c answers).state
on_stays d None c answers = inl refl
on_stays d (Some op) c answers = answered_stays d op c answers (first_bad answers)

in_stays : (s : State) (c : Call) (answers : List Answer) → Stays (live_boot s) (phase_in s c answers).state
in_stays (state.Vacant boots) c answers = inl refl
in_stays (state.Held d) c answers = on_stays d d.op c answers

pub live_boot-phase : (s : State) (o : OpenOperation) (answers : List Answer) → Stays (live_boot s) (phase_of s o answers).state
live_boot-phase s o answers =
    one_of (carries_ended s o.boot) (over s [] (ended_reply o o.boot answers)) (phase_in s o.call answers) (live_boot s)
    (inl refl) (in_stays s o.call answers)

pub live_boot-without : (s : State) → live_boot (without_operation s) ≡ live_boot s
live_boot-without (state.Vacant boots) = refl
live_boot-without (state.Held d) = refl

pub live_boot-taken_up : (s : State) (who : Who) (c : Call) → live_boot (taken_up_state s who c) ≡ live_boot s
live_boot-taken_up (state.Vacant boots) who c = refl
live_boot-taken_up (state.Held d) who c = refl

-- the guest is the one before, or a new one with the next number
abbrev pub Begins : State → State → Type 0
Begins s next = ((live_boot next ≡ live_boot s) × (boots_of next ≡ boots_of s)) ⊎ ((live_boot next ≡ Some (boots_of s + 1)) × (boots_of next ≡ boots_of s + 1))

begun_begins : (d : Domain) (k : OpKind) (who : Who) (ran : Bool) (first : Phase) (def : Option DomainDef) → Begins (state.Held d) (state.Held (begun_with d k who ran first def))
begun_begins d k who ran first None = inl (refl, refl)
begun_begins d k who ran first (Some def) = inr (refl, refl)

begun_domain : (d : Domain) (who : Who) (c : Call) → Begins (state.Held d) (state.Held (begun d who c))
begun_domain d who c = begun_begins d (unwrap_or (begins c) kind.Start) who (ran_there c) (first_phase d c) (boot_definition d c)

pub live_boot-begin : (s : State) (who : Who) (c : Call) → Begins s (begin_state s who c)
live_boot-begin (state.Held d) who c = begun_domain d who c
live_boot-begin (state.Vacant boots) who (call.Create def) = begun_domain (new_domain def boots) who (call.Create def)
live_boot-begin (state.Vacant boots) who (call.Restore def running saved) = begun_domain (new_domain def boots) who (call.Restore def running saved)
live_boot-begin (state.Vacant boots) who (call.Prepare def running saved) = begun_domain (new_domain def boots) who (call.Prepare def running saved)
live_boot-begin (state.Vacant boots) who other = inl (refl, refl)

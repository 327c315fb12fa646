-- Phases of operations leave a tidy domain.
use Rattle.std.proofs.Common.{List, [], Bool, true, false, if◌then◌else◌, Option, None, Some, unwrap_or}
use Rattle.domain_spec.specs.Types.{Answer, AnswerValue, Call, Domain, DomainDef, Live, Op, Phase, Refusal, Reply, SnapInfo, State}
use Rattle.domain_spec.specs.Types.call
use Rattle.domain_spec.specs.Types.cause
use Rattle.domain_spec.specs.Types.phase
use Rattle.domain_spec.specs.Types.reason
use Rattle.domain_spec.specs.Types.reply
use Rattle.domain_spec.specs.Types.run
use Rattle.domain_spec.specs.Types.state
use Rattle.domain_spec.specs.declared.loaded.Loaded.{Loaded}
use Rattle.domain_spec.specs.declared.open.OpenOperation.{OpenOperation}
use Rattle.domain_spec.specs.declared.step.PhaseStep.{PhaseStep}
use Rattle.domain_spec.specs.Asks.{first_bad, first_value, is_undone}
use Rattle.domain_spec.specs.CopyResult.{cancels, current_after, left_in, loaded_active, loaded_new, loaded_with, over, poll_done, poll_step}
use Rattle.domain_spec.specs.Migration.{migration_done}
use Rattle.domain_spec.specs.Operation.{led_to, live_phase_done, quit_done, take_done}
use Rattle.domain_spec.specs.Phase.{answered_phase, ended_reply, inactive_phase_done, inactive_phase_refused, inactive_take_done, inactive_taken, live_phase_refused, phase_done, phase_in, phase_of, phase_on, phase_refused, start_failed}
use Rattle.domain_spec.specs.PhaseAsks.{is_given_up, loaded_of, resumes}
use Rattle.domain_spec.specs.Reading.{carries_ended, is_running, with_run}
use Rattle.domain_spec.specs.Refusals.{aborted, failure_of, monitor_lost, stalled}
use Rattle.core_mark_laws.specs.Tidy.{IsTidy}
use Rattle.core_mark_laws.proofs.TidyCalls.{ended_tidy}

-- a phase leaves a tidy domain
abbrev Leaves : PhaseStep → Type 0
Leaves p = IsTidy p.state

one_of : (b : Bool) (x y : PhaseStep) → Leaves x → Leaves y → Leaves (if b then x else y)
one_of true x y hx hy = hx
one_of false x y hx hy = hy

either : (b : Bool) (x y : Domain) → IsTidy (state.Held x) → IsTidy (state.Held y) → IsTidy (state.Held (if b then x else y))
either true x y hx hy = hx
either false x y hx hy = hy

load_tidy : (d : Domain) (l : Live) (op : Op) (c : Call) (o : Option Loaded) → IsTidy (state.Held d) → Leaves (loaded_with d l op c o)
load_tidy d l op c None e = e
load_tidy d l op c (Some loaded) e = one_of op.new_boot (loaded_new d l c loaded) (loaded_active d l c loaded) e e

poll_tidy : (d : Domain) (op : Op) (v : Option AnswerValue) → IsTidy (state.Held d) → Leaves (poll_step d op v)
poll_tidy d op v e =
    let stall = cancels d op (stalled (unwrap_or op.remaining 0)) in
    let polled = poll_done d op (left_in v) in
    one_of op.abort (cancels d op aborted) (if is_given_up op then stall else polled) e (one_of (is_given_up op) stall polled e e)

take_tidy : (d : Domain) (l : Live) (op : Op) (c : Call) (answers : List Answer) → IsTidy (state.Held d) → Leaves (take_done d l op c answers)
take_tidy d l op (call.Save name) answers e = e
take_tidy d l op (call.Snapshot info) answers e = either (resumes l op) (with_run d l run.Running) d e e
take_tidy d l op other answers e = either (resumes l op) (with_run d l run.Running) d e e

quit_tidy : (d : Domain) (l : Live) (c : Call) → IsTidy (state.Held d) → Leaves (quit_done d l c)
quit_tidy d l (call.Save name) e = ended_tidy d l reason.Saved e
quit_tidy d l other e = ended_tidy (record d { current = current_after d other }) l reason.FromSnapshot e

migration_tidy : (d : Domain) (l : Live) (op : Op) (c : Call) (answers : List Answer) (led : Reply) (p : Phase) → IsTidy (state.Held d) → Leaves (migration_done d l op c answers led p)
migration_tidy d l op c answers led phase.MigrateQuit e = ended_tidy d l reason.Migrated e
migration_tidy d l op c answers led phase.MigrateDrop e = ended_tidy d l reason.Failed e
migration_tidy d l op c answers led other e = e

live_done_tidy : (d : Domain) (l : Live) (op : Op) (c : Call) (answers : List Answer) (p : Phase) → IsTidy (state.Held d) → Leaves (live_phase_done d l op c answers p)
live_done_tidy d l op c answers phase.Nothing e = e
live_done_tidy d l op c answers phase.Make e = e
live_done_tidy d l op c answers phase.Run e = e
live_done_tidy d l op c answers phase.Load e = load_tidy d l op c (loaded_of d c) e
live_done_tidy d l op c answers phase.Copy e = either (is_running l.run) (with_run d l (run.Paused cause.Job)) d e e
live_done_tidy d l op c answers phase.Poll e = poll_tidy d op (first_value answers) e
live_done_tidy d l op c answers phase.Take e = take_tidy d l op c answers e
live_done_tidy d l op c answers phase.Quit e = quit_tidy d l c e
live_done_tidy d l op c answers phase.Cancel e = either (resumes l op) (with_run d l run.Running) d e e
live_done_tidy d l op c answers other e = migration_tidy d l op c answers (led_to op) other e

taken_tidy : (d : Domain) (info : SnapInfo) (def : Option DomainDef) → IsTidy (state.Held d) → Leaves (inactive_taken d info def)
taken_tidy d info None e = e
taken_tidy d info (Some def) e = e

inactive_take_tidy : (d : Domain) (c : Call) → IsTidy (state.Held d) → Leaves (inactive_take_done d c)
inactive_take_tidy d (call.Snapshot info) e = taken_tidy d info d.stored e
inactive_take_tidy d other e = e

inactive_tidy : (d : Domain) (op : Op) (c : Call) (p : Phase) → IsTidy (state.Held d) → Leaves (inactive_phase_done d op c p)
inactive_tidy d op c phase.Take e = inactive_take_tidy d c e
inactive_tidy d op c other e = e

done_tidy : (d : Domain) (l : Option Live) (op : Op) (c : Call) (answers : List Answer) → IsTidy (state.Held d) → Leaves (phase_done d l op c answers)
done_tidy d None op c answers e = inactive_tidy d op c op.phase e
done_tidy d (Some l) op c answers e = live_done_tidy d l op c answers op.phase e

live_refused_tidy : (d : Domain) (l : Live) (op : Op) (r : Refusal) (p : Phase) → IsTidy (state.Held d) → Leaves (live_phase_refused d l op r p)
live_refused_tidy d l op r phase.Make e = ended_tidy d l reason.Failed e
live_refused_tidy d l op r phase.Run e = ended_tidy d l reason.Failed e
live_refused_tidy d l op r phase.Load e = one_of op.new_boot (start_failed d l r) (over (state.Held d) [] (reply.No r)) (ended_tidy d l reason.Failed e) e
live_refused_tidy d l op r phase.MigrateLoad e = ended_tidy d l reason.Failed e
live_refused_tidy d l op r other e = e

inactive_refused_tidy : (d : Domain) (op : Op) (r : Refusal) (p : Phase) → IsTidy (state.Held d) → Leaves (inactive_phase_refused d op r p)
inactive_refused_tidy d op r phase.Take e = e
inactive_refused_tidy d op r phase.Cancel e = e
inactive_refused_tidy d op r other e = e

refused_tidy : (d : Domain) (l : Option Live) (op : Op) (r : Refusal) → IsTidy (state.Held d) → Leaves (phase_refused d l op r)
refused_tidy d None op r e = inactive_refused_tidy d op r op.phase e
refused_tidy d (Some l) op r e = live_refused_tidy d l op r op.phase e

answered_tidy : (d : Domain) (op : Op) (c : Call) (answers : List Answer) (bad : Option Answer) → IsTidy (state.Held d) → Leaves (answered_phase d op c answers bad)
answered_tidy d op c answers None e = done_tidy d d.live op c answers e
answered_tidy d op c answers (Some bad) e =
    one_of (is_undone bad) (phase_refused d d.live op (failure_of bad)) (over (state.Held d) [] (reply.No monitor_lost)) (refused_tidy d d.live op (failure_of bad) e) e

on_tidy : (d : Domain) (op : Option Op) (c : Call) (answers : List Answer) → IsTidy (state.Held d) → Leaves (phase_on d op c answers)
on_tidy d None c answers e = e
on_tidy d (Some op) c answers e = answered_tidy d op c answers (first_bad answers) e

in_tidy : (s : State) (c : Call) (answers : List Answer) → IsTidy s → Leaves (phase_in s c answers)
in_tidy (state.Vacant boots) c answers e = e
in_tidy (state.Held d) c answers e = on_tidy d d.op c answers e

pub phase_tidy : (s : State) (o : OpenOperation) (answers : List Answer) → IsTidy s → IsTidy (phase_of s o answers).state
phase_tidy s o answers e = one_of (carries_ended s o.boot) (over s [] (ended_reply o o.boot answers)) (phase_in s o.call answers) e (in_tidy s o.call answers e)

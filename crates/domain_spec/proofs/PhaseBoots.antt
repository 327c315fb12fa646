-- Why a phase leaves the number of boots as it is.
use Rattle.std.proofs.Common.{◌≡◌, ℕ, ◌≤◌, List, [], ◌∷◌, Bool, true, false, if◌then◌else◌, Option, None, Some, refl, arith, unwrap_or}
use Rattle.domain_spec.specs.Types.{Answer, AnswerValue, Call, Domain, DomainDef, Live, Op, Phase, Refusal, Reply, SnapInfo, State, Who}
use Rattle.domain_spec.specs.Types.call
use Rattle.domain_spec.specs.Types.cause
use Rattle.domain_spec.specs.Types.phase
use Rattle.domain_spec.specs.Types.reason
use Rattle.domain_spec.specs.Types.reply
use Rattle.domain_spec.specs.Types.run
use Rattle.domain_spec.specs.Types.state
use Rattle.domain_spec.specs.declared.loaded.Loaded.{Loaded}
use Rattle.domain_spec.specs.declared.mark.Mark.{Mark}
use Rattle.domain_spec.specs.declared.mark.Mark.TheVariants as mark
use Rattle.domain_spec.specs.declared.open.OpenOperation.{OpenOperation}
use Rattle.domain_spec.specs.declared.standing.Standing.{Standing}
use Rattle.domain_spec.specs.declared.step.Outcome.{Outcome}
use Rattle.domain_spec.specs.declared.step.PhaseStep.{PhaseStep}
use Rattle.domain_spec.specs.Asks.{first_bad, first_value, is_undone}
use Rattle.domain_spec.specs.Fold.{after, after_phase, after_take_up}
use Rattle.domain_spec.specs.Laws.{BootsNeverFall}
use Rattle.domain_spec.specs.CopyResult.{cancels, current_after, left_in, loaded_active, loaded_new, loaded_with, over, poll_done, poll_step}
use Rattle.domain_spec.specs.Migration.{migration_done}
use Rattle.domain_spec.specs.Operation.{led_to, live_phase_done, quit_done, take_done}
use Rattle.domain_spec.specs.Phase.{answered_phase, ended_reply, inactive_phase_done, inactive_phase_refused, inactive_take_done, inactive_taken, live_phase_refused, phase_done, phase_in, phase_of, phase_on, phase_refused, start_failed, without_operation}
use Rattle.domain_spec.specs.PhaseAsks.{is_given_up, loaded_of, resumes}
use Rattle.domain_spec.specs.Reading.{boots_of, carries_ended, is_running, with_run}
use Rattle.domain_spec.specs.Refusals.{aborted, failure_of, monitor_lost, stalled}
use Rattle.domain_spec.proofs.BootsProofs.{boots_of-begin, boots_of-event, boots_of-exit, boots_of-seq, boots_of-taken_up, ended_keeps_boots}

-- a phase leaves this number of boots
abbrev pub Leaves : ℕ → PhaseStep → Type 0
Leaves n p = boots_of p.state ≡ n

one_of : (b : Bool) (x y : PhaseStep) (n : ℕ) → Leaves n x → Leaves n y → Leaves n (if b then x else y)
one_of true x y n hx hy = hx
one_of false x y n hx hy = hy

resumed_keeps : (b : Bool) (x y : Domain) (n : ℕ) → x.boots ≡ n → y.boots ≡ n → (if b then x else y).boots ≡ n
resumed_keeps true x y n hx hy = hx
resumed_keeps false x y n hx hy = hy

load_keeps : (d : Domain) (l : Live) (op : Op) (c : Call) (o : Option Loaded) → Leaves d.boots (loaded_with d l op c o)
load_keeps d l op c None = refl
load_keeps d l op c (Some loaded) = one_of op.new_boot (loaded_new d l c loaded) (loaded_active d l c loaded) d.boots refl refl

poll_keeps : (d : Domain) (op : Op) (v : Option AnswerValue) → Leaves d.boots (poll_step d op v)
poll_keeps d op v =
    let stall = cancels d op (stalled (unwrap_or op.remaining 0)) in
    let polled = poll_done d op (left_in v) in
    one_of op.abort (cancels d op aborted) (if is_given_up op then stall else polled) d.boots refl
    (one_of (is_given_up op) stall polled d.boots refl refl)

take_keeps : (d : Domain) (l : Live) (op : Op) (c : Call) (answers : List Answer) → Leaves d.boots (take_done d l op c answers)
take_keeps d l op (call.Save name) answers = refl
take_keeps d l op (call.Snapshot info) answers = resumed_keeps (resumes l op) (with_run d l run.Running) d d.boots refl refl
take_keeps d l op other answers = resumed_keeps (resumes l op) (with_run d l run.Running) d d.boots refl refl

quit_keeps : (d : Domain) (l : Live) (c : Call) → Leaves d.boots (quit_done d l c)
quit_keeps d l (call.Save name) = ended_keeps_boots d l reason.Saved
quit_keeps d l other = ended_keeps_boots (record d { current = current_after d other }) l reason.FromSnapshot

copy_keeps : (b : Bool) (x y : Domain) (n : ℕ) → x.boots ≡ n → y.boots ≡ n → (if b then x else y).boots ≡ n
copy_keeps true x y n hx hy = hx
copy_keeps false x y n hx hy = hy

migration_keeps : (d : Domain) (l : Live) (op : Op) (c : Call) (answers : List Answer) (led : Reply) (p : Phase) → Leaves d.boots (migration_done d l op c answers led p)
migration_keeps d l op c answers led phase.MigrateQuit = ended_keeps_boots d l reason.Migrated
migration_keeps d l op c answers led phase.MigrateDrop = ended_keeps_boots d l reason.Failed
migration_keeps d l op c answers led other = refl

live_done_keeps : (d : Domain) (l : Live) (op : Op) (c : Call) (answers : List Answer) (p : Phase) → Leaves d.boots (live_phase_done d l op c answers p)
live_done_keeps d l op c answers phase.Nothing = refl
live_done_keeps d l op c answers phase.Make = refl
live_done_keeps d l op c answers phase.Run = refl
live_done_keeps d l op c answers phase.Load = load_keeps d l op c (loaded_of d c)
live_done_keeps d l op c answers phase.Copy = copy_keeps (is_running l.run) (with_run d l (run.Paused cause.Job)) d d.boots refl refl
live_done_keeps d l op c answers phase.Poll = poll_keeps d op (first_value answers)
live_done_keeps d l op c answers phase.Take = take_keeps d l op c answers
live_done_keeps d l op c answers phase.Quit = quit_keeps d l c
live_done_keeps d l op c answers phase.Cancel = resumed_keeps (resumes l op) (with_run d l run.Running) d d.boots refl refl
live_done_keeps d l op c answers other = migration_keeps d l op c answers (led_to op) other

taken_keeps : (d : Domain) (info : SnapInfo) (def : Option DomainDef) → Leaves d.boots (inactive_taken d info def)
taken_keeps d info None = refl
taken_keeps d info (Some def) = refl

inactive_take_keeps : (d : Domain) (c : Call) → Leaves d.boots (inactive_take_done d c)
inactive_take_keeps d (call.Snapshot info) = taken_keeps d info d.stored
inactive_take_keeps d other = refl

inactive_keeps : (d : Domain) (op : Op) (c : Call) (p : Phase) → Leaves d.boots (inactive_phase_done d op c p)
inactive_keeps d op c phase.Take = inactive_take_keeps d c
inactive_keeps d op c other = refl

done_keeps : (d : Domain) (l : Option Live) (op : Op) (c : Call) (answers : List Answer) → Leaves d.boots (phase_done d l op c answers)
done_keeps d None op c answers = inactive_keeps d op c op.phase
done_keeps d (Some l) op c answers = live_done_keeps d l op c answers op.phase

live_refused_keeps : (d : Domain) (l : Live) (op : Op) (r : Refusal) (p : Phase) → Leaves d.boots (live_phase_refused d l op r p)
live_refused_keeps d l op r phase.Make = ended_keeps_boots d l reason.Failed
live_refused_keeps d l op r phase.Run = ended_keeps_boots d l reason.Failed
live_refused_keeps d l op r phase.Load = one_of op.new_boot (start_failed d l r) (over (state.Held d) [] (reply.No r)) d.boots (ended_keeps_boots d l reason.Failed) refl
live_refused_keeps d l op r phase.MigrateLoad = ended_keeps_boots d l reason.Failed
live_refused_keeps d l op r other = refl

inactive_refused_keeps : (d : Domain) (op : Op) (r : Refusal) (p : Phase) → Leaves d.boots (inactive_phase_refused d op r p)
inactive_refused_keeps d op r phase.Take = refl
inactive_refused_keeps d op r phase.Cancel = refl
inactive_refused_keeps d op r other = refl

refused_keeps : (d : Domain) (l : Option Live) (op : Op) (r : Refusal) → Leaves d.boots (phase_refused d l op r)
refused_keeps d None op r = inactive_refused_keeps d op r op.phase
refused_keeps d (Some l) op r = live_refused_keeps d l op r op.phase

answered_keeps : (d : Domain) (op : Op) (c : Call) (answers : List Answer) (bad : Option Answer) → Leaves d.boots (answered_phase d op c answers bad)
answered_keeps d op c answers None = done_keeps d d.live op c answers
answered_keeps d op c answers (Some bad) = one_of (is_undone bad) (phase_refused d d.live op (failure_of bad)) (over (state.Held d) [] (reply.No monitor_lost)) d.boots (refused_keeps d d.live op (failure_of bad)) refl

on_keeps : (d : Domain) (op : Option Op) (c : Call) (answers : List Answer) → Leaves d.boots (phase_on d op c answers)
on_keeps d None c answers = refl
on_keeps d (Some op) c answers = answered_keeps d op c answers (first_bad answers)

in_keeps : (s : State) (c : Call) (answers : List Answer) → Leaves (boots_of s) (phase_in s c answers)
in_keeps (state.Vacant boots) c answers = refl
in_keeps (state.Held d) c answers = on_keeps d d.op c answers

pub boots_of-phase : (s : State) (o : OpenOperation) (answers : List Answer) → boots_of (phase_of s o answers).state ≡ boots_of s
boots_of-phase s o answers = one_of (carries_ended s o.boot) (over s [] (ended_reply o o.boot answers)) (phase_in s o.call answers) (boots_of s) refl (in_keeps s o.call answers)

pub without_keeps : (s : State) → boots_of (without_operation s) ≡ boots_of s
without_keeps (state.Vacant boots) = refl
without_keeps (state.Held d) = refl

pub after_phase_keeps : (s : Standing) (o : Option OpenOperation) (answers : List Answer) (next : Outcome) → boots_of (after_phase s o answers next).state ≡ boots_of s.state
after_phase_keeps s None answers next = refl
after_phase_keeps s (Some o) answers next = boots_of-phase s.state o answers

pub after_take_up_keeps : (s : Standing) (o : Option OpenOperation) (n : ℕ) (who : Who) (c : Call) → boots_of (after_take_up s o n who c).state ≡ boots_of s.state
after_take_up_keeps s None n who c = refl
after_take_up_keeps s (Some o) n who c = boots_of-taken_up s.state who c

after_raises : (s : Standing) (m : Mark ℕ) → boots_of s.state ≤ boots_of (after s m).state
after_raises s (mark.Done n who c boot asks answers r events) = let e = boots_of-seq s.state c boot answers in omega arith
after_raises s (mark.Start n who c boot) = boots_of-begin s.state who c
after_raises s (mark.TakeUp n who c) = let e = after_take_up_keeps s s.operation n who c in omega arith
after_raises s (mark.Phase n who p asks answers next events) = let e = after_phase_keeps s s.operation answers next in omega arith
after_raises s (mark.End n who r) = let e = without_keeps s.state in omega arith
after_raises s (mark.Exit boot why events) = let e = boots_of-exit s.state why in omega arith
after_raises s (mark.Event boot e events) = let same = boots_of-event s.state e in omega arith
after_raises s other = omega arith

pub boots_rise : BootsNeverFall
boots_rise s [] = omega arith
boots_rise s (m ∷ marks) = let now = after_raises s m in let later = boots_rise (after s m) marks in omega arith

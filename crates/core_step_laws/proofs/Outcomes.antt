-- After no phase of an operation is its guest still to be made.
use Rattle.std.proofs.Common.{◌≡◌, List, [], Bool, true, false, if◌then◌else◌, Option, None, Some, refl, unwrap_or, nat_le}
use Rattle.domain_spec.specs.Types.{Answer, AnswerValue, Call, Domain, DomainDef, Live, Op, OpKind, Phase, Refusal, Reply, SnapInfo, State}
use Rattle.domain_spec.specs.Types.call
use Rattle.domain_spec.specs.Types.kind
use Rattle.domain_spec.specs.Types.phase
use Rattle.domain_spec.specs.Types.reply
use Rattle.domain_spec.specs.Types.state
use Rattle.domain_spec.specs.declared.loaded.Loaded.{Loaded}
use Rattle.domain_spec.specs.declared.open.OpenOperation.{OpenOperation}
use Rattle.domain_spec.specs.declared.step.Outcome.TheVariants as outcome
use Rattle.domain_spec.specs.declared.step.PhaseStep.{PhaseStep}
use Rattle.domain_spec.specs.Asks.{first_bad, first_value, is_undone}
use Rattle.domain_spec.specs.Call.{phase_taken_up}
use Rattle.domain_spec.specs.CopyResult.{cancel_phase, cancels, left_in, loaded_active, loaded_new, loaded_with, over, poll_done, poll_step, take_phase}
use Rattle.domain_spec.specs.Migration.{migration_done}
use Rattle.domain_spec.specs.Operation.{after_make, led_to, live_phase_done, quit_done, take_done}
use Rattle.domain_spec.specs.Phase.{answered_phase, ended_reply, inactive_phase_done, inactive_phase_refused, inactive_take_done, inactive_taken, live_phase_refused, migration_refused, phase_done, phase_in, phase_of, phase_on, phase_refused, start_failed}
use Rattle.domain_spec.specs.PhaseAsks.{is_given_up, loaded_of}
use Rattle.domain_spec.specs.Reading.{carries_ended}
use Rattle.domain_spec.specs.Refusals.{aborted, failure_of, monitor_lost, stalled}
use Rattle.core_step_laws.specs.Made.{is_make}

-- this phase makes the guest
abbrev makes_it : Phase → Bool
makes_it p = is_make (outcome.On p)

-- a phase leads on to another than the Make
abbrev LeadsOn : PhaseStep → Type 0
LeadsOn p = is_make p.outcome ≡ false

one_of : (b : Bool) (x y : PhaseStep) → LeadsOn x → LeadsOn y → LeadsOn (if b then x else y)
one_of true x y hx hy = hx
one_of false x y hx hy = hy

after_it : (k : OpKind) → makes_it (after_make k) ≡ false
after_it kind.Start = refl
after_it kind.MigrateIn = refl
after_it other = refl

cancelled : (k : OpKind) → makes_it (cancel_phase k) ≡ false
cancelled kind.MigrateOut = refl
cancelled other = refl

taken : (k : OpKind) → makes_it (take_phase k) ≡ false
taken kind.MigrateOut = refl
taken other = refl

polled : (b : Bool) (k : OpKind) → makes_it (if b then take_phase k else phase.Poll) ≡ false
polled true k = taken k
polled false k = refl

load_on : (d : Domain) (l : Live) (op : Op) (c : Call) (o : Option Loaded) → LeadsOn (loaded_with d l op c o)
load_on d l op c None = refl
load_on d l op c (Some loaded) = one_of op.new_boot (loaded_new d l c loaded) (loaded_active d l c loaded) refl refl

poll_on : (d : Domain) (op : Op) (v : Option AnswerValue) → LeadsOn (poll_step d op v)
poll_on d op v =
    let stall = cancels d op (stalled (unwrap_or op.remaining 0)) in
    let done = poll_done d op (left_in v) in
    one_of op.abort (cancels d op aborted) (if is_given_up op then stall else done) (cancelled op.kind)
    (one_of (is_given_up op) stall done (cancelled op.kind) (polled (nat_le (left_in v) op.limit) op.kind))

take_on : (d : Domain) (l : Live) (op : Op) (c : Call) (answers : List Answer) → LeadsOn (take_done d l op c answers)
take_on d l op (call.Save name) answers = refl
take_on d l op (call.Snapshot info) answers = refl
take_on d l op other answers = refl

quit_on : (d : Domain) (l : Live) (c : Call) → LeadsOn (quit_done d l c)
quit_on d l (call.Save name) = refl
quit_on d l other = refl

migration_on : (d : Domain) (l : Live) (op : Op) (c : Call) (answers : List Answer) (led : Reply) (p : Phase) → LeadsOn (migration_done d l op c answers led p)
migration_on d l op c answers led phase.MigrateCopy = refl
migration_on d l op c answers led phase.MigrateTake = refl
migration_on d l op c answers led phase.MigrateCancel = refl
migration_on d l op c answers led phase.MigrateLoad = refl
migration_on d l op c answers led phase.MigrateQuit = refl
migration_on d l op c answers led phase.MigrateBack = refl
migration_on d l op c answers led phase.MigrateRun = refl
migration_on d l op c answers led phase.MigrateDrop = refl
migration_on d l op c answers led other = refl

live_on : (d : Domain) (l : Live) (op : Op) (c : Call) (answers : List Answer) (p : Phase) → LeadsOn (live_phase_done d l op c answers p)
live_on d l op c answers phase.Nothing = refl
live_on d l op c answers phase.Make = after_it op.kind
live_on d l op c answers phase.Run = refl
live_on d l op c answers phase.Load = load_on d l op c (loaded_of d c)
live_on d l op c answers phase.Copy = refl
live_on d l op c answers phase.Poll = poll_on d op (first_value answers)
live_on d l op c answers phase.Take = take_on d l op c answers
live_on d l op c answers phase.Quit = quit_on d l c
live_on d l op c answers phase.Cancel = refl
live_on d l op c answers other = migration_on d l op c answers (led_to op) other

bare_taken : (d : Domain) (info : SnapInfo) (def : Option DomainDef) → LeadsOn (inactive_taken d info def)
bare_taken d info None = refl
bare_taken d info (Some def) = refl

bare_take_on : (d : Domain) (c : Call) → LeadsOn (inactive_take_done d c)
bare_take_on d (call.Snapshot info) = bare_taken d info d.stored
bare_take_on d other = refl

bare_on : (d : Domain) (op : Op) (c : Call) (p : Phase) → LeadsOn (inactive_phase_done d op c p)
bare_on d op c phase.Take = bare_take_on d c
bare_on d op c phase.Nothing = refl
bare_on d op c other = refl

done_on : (d : Domain) (l : Option Live) (op : Op) (c : Call) (answers : List Answer) → LeadsOn (phase_done d l op c answers)
done_on d None op c answers = bare_on d op c op.phase
done_on d (Some l) op c answers = live_on d l op c answers op.phase

migration_refused_on : (d : Domain) (l : Live) (op : Op) (r : Refusal) (p : Phase) → LeadsOn (migration_refused d l op r p)
migration_refused_on d l op r phase.MigrateLoad = refl
migration_refused_on d l op r phase.MigrateTake = cancelled op.kind
migration_refused_on d l op r phase.MigrateCancel = refl
migration_refused_on d l op r phase.MigrateQuit = refl
migration_refused_on d l op r phase.MigrateBack = refl
migration_refused_on d l op r phase.MigrateRun = refl
migration_refused_on d l op r phase.MigrateDrop = refl
migration_refused_on d l op r other = refl

live_refused_on : (d : Domain) (l : Live) (op : Op) (r : Refusal) (p : Phase) → LeadsOn (live_phase_refused d l op r p)
live_refused_on d l op r phase.Nothing = refl
live_refused_on d l op r phase.Make = refl
live_refused_on d l op r phase.Run = refl
live_refused_on d l op r phase.Load = one_of op.new_boot (start_failed d l r) (over (state.Held d) [] (reply.No r)) refl refl
live_refused_on d l op r phase.Copy = refl
live_refused_on d l op r phase.Poll = cancelled op.kind
live_refused_on d l op r phase.Take = cancelled op.kind
live_refused_on d l op r phase.Quit = cancelled op.kind
live_refused_on d l op r phase.Cancel = refl
live_refused_on d l op r other = migration_refused_on d l op r other

bare_refused_on : (d : Domain) (op : Op) (r : Refusal) (p : Phase) → LeadsOn (inactive_phase_refused d op r p)
bare_refused_on d op r phase.Take = cancelled op.kind
bare_refused_on d op r phase.Cancel = refl
bare_refused_on d op r other = refl

refused_on : (d : Domain) (l : Option Live) (op : Op) (r : Refusal) → LeadsOn (phase_refused d l op r)
refused_on d None op r = bare_refused_on d op r op.phase
refused_on d (Some l) op r = live_refused_on d l op r op.phase

answered_on : (d : Domain) (op : Op) (c : Call) (answers : List Answer) (bad : Option Answer) → LeadsOn (answered_phase d op c answers bad)
answered_on d op c answers None = done_on d d.live op c answers
answered_on d op c answers (Some bad) =
    one_of (is_undone bad) (phase_refused d d.live op (failure_of bad)) (over (state.Held d) [] (reply.No monitor_lost)) (refused_on d d.live op (failure_of bad)) refl

by_op : (d : Domain) (op : Option Op) (c : Call) (answers : List Answer) → LeadsOn (phase_on d op c answers)
by_op d None c answers = refl
by_op d (Some op) c answers = answered_on d op c answers (first_bad answers)

by_state : (s : State) (c : Call) (answers : List Answer) → LeadsOn (phase_in s c answers)
by_state (state.Vacant boots) c answers = refl
by_state (state.Held d) c answers = by_op d d.op c answers

pub phase_leads_on : (s : State) (o : OpenOperation) (answers : List Answer) → is_make (phase_of s o answers).outcome ≡ false
phase_leads_on s o answers = one_of (carries_ended s o.boot) (over s [] (ended_reply o o.boot answers)) (phase_in s o.call answers) refl (by_state s o.call answers)

pub taken_up_on : (c : Call) → is_make (outcome.On (phase_taken_up c)) ≡ false
taken_up_on (call.Confirm true) = refl
taken_up_on (call.Confirm false) = refl
taken_up_on (call.Finish true) = refl
taken_up_on (call.Finish false) = refl
taken_up_on other = refl

-- The phases of this part, among all phases.
use Rattle.std.proofs.Common.{◌≡◌, ◌∙◌, ◌++◌, List, [], Option, None, Some, IfSome, IsSome, false, if◌then◌else◌, refl, subst, sym, ap}
use Rattle.domain_spec.specs.Types.{Answer, Call, Domain, Live, Op, Phase, SnapInfo, State}
use Rattle.domain_spec.specs.Types.call
use Rattle.domain_spec.specs.Types.command
use Rattle.domain_spec.specs.Types.phase
use Rattle.domain_spec.specs.Types.reply
use Rattle.domain_spec.specs.Types.state
use Rattle.domain_spec.specs.declared.open.OpenOperation.{OpenOperation}
use Rattle.domain_spec.specs.declared.step.PhaseStep.{PhaseStep}
use Rattle.domain_spec.specs.Asks.{asks_left, undone_by}
use Rattle.domain_spec.specs.Call.{tell, tell_if}
use Rattle.domain_spec.specs.CopyResult.{over}
use Rattle.domain_spec.specs.Operation.{live_phase_done}
use Rattle.domain_spec.specs.Phase.{ended_reply, inactive_phase_done, phase_done, phase_in, phase_of, phase_on, phase_still_asked, plan_on}
use Rattle.domain_spec.specs.PhaseAsks.{live_phase_plan, phase_plan, resumes, take_asks}
use Rattle.domain_spec.specs.Reading.{carries_ended}
use Rattle.domain_spec.specs.Refusals.{no_domain}
use Rattle.core_rules.specs.Cores.{Serves, core_of_phase, core_of_take, core_on}
use Rattle.core_rules.specs.declared.cores.Core.TheVariants as core
use Rattle.core_rules.specs.Ends.{done_on, has_operation}
use Rattle.core_rules.specs.Next.{next_of}
use Rattle.core_rules.specs.Place.{next_at, place_after}
use Rattle.core_rules.proofs.Answered.{phase_plan_left}
use Rattle.core_rules.proofs.NextAsk.{next_is_at}
use Rattle.snapshot_core.specs.Plan.{due_plan, due_plan_on, is_idle, is_nothing, plan_at}
use Rattle.snapshot_core.specs.Steps.{nothing_done, take_done}

pub done_nothing : (d : Domain) (live : Option Live) (op : Op) (c : Call) (answers : List Answer) → op.phase ≡ phase.Nothing → phase_done d live op c answers ≡ nothing_done d live c
done_nothing d None op c answers e = ap (inactive_phase_done d op c) e
done_nothing d (Some l) op c answers e = ap (live_phase_done d l op c answers) e

pub done_take : (d : Domain) (live : Option Live) (op : Op) (info : SnapInfo) (answers : List Answer) → op.phase ≡ phase.Take → phase_done d live op (call.Snapshot info) answers ≡ take_done d live op info answers
done_take d None op info answers e = ap (inactive_phase_done d op (call.Snapshot info)) e
done_take d (Some l) op info answers e = ap (live_phase_done d l op (call.Snapshot info) answers) e

none_on : (d : Domain) (op : Option Op) (c : Call) (answers : List Answer) → d.op ≡ op → has_operation (state.Held d) ≡ false → phase_on d op c answers ≡ over (state.Held d) [] (reply.No no_domain)
none_on d None c answers e has = refl
none_on d (Some op) c answers e has = cc

none_in : (s : State) (c : Call) (answers : List Answer) → has_operation s ≡ false → phase_in s c answers ≡ over s [] (reply.No no_domain)
none_in (state.Vacant boots) c answers has = refl
none_in (state.Held d) c answers has = none_on d d.op c answers refl has

-- where there is no operation there is no domain for it
pub no_operation : (s : State) (o : OpenOperation) (answers : List Answer) → carries_ended s o.boot ≡ false → has_operation s ≡ false → phase_of s o answers ≡ over s [] (reply.No no_domain)
no_operation s o answers e has = ap (λ ended. if ended then over s [] (ended_reply o o.boot answers) else phase_in s o.call answers) e ∙ none_in s o.call answers has

phase_is_take : (p : Phase) (c : Call) → is_idle p ≡ false → core_of_phase p c ≡ core.Snapshot → p ≡ phase.Take
phase_is_take phase.Nothing c e s = cc
phase_is_take phase.Make c e s = cc
phase_is_take phase.Run c e s = cc
phase_is_take phase.Load c e s = cc
phase_is_take phase.Copy c e s = cc
phase_is_take phase.Poll c e s = cc
phase_is_take phase.Take c e s = refl
phase_is_take phase.Quit c e s = cc
phase_is_take phase.Cancel c e s = cc
phase_is_take phase.MigrateCopy c e s = cc
phase_is_take phase.MigrateTake c e s = cc
phase_is_take phase.MigrateCancel c e s = cc
phase_is_take phase.MigrateLoad c e s = cc
phase_is_take phase.Resting c e s = cc
phase_is_take phase.MigrateQuit c e s = cc
phase_is_take phase.MigrateBack c e s = cc
phase_is_take phase.MigrateRun c e s = cc
phase_is_take phase.MigrateDrop c e s = cc

-- what the phase that takes a snapshot leaves, a phase leaves that asks something, of a call for a snapshot
pub taken_on :
    (d : Domain) (op : Option Op) (info : SnapInfo) (answers : List Answer) (P : PhaseStep → Type 0) → IsSome op → is_nothing op ≡ false → core_on op (call.Snapshot info) ≡ core.Snapshot
    → IfSome op (λ o. P (take_done d d.live o info answers)) → P (done_on d op (call.Snapshot info) answers)
taken_on d None info answers P there busy part h = absurd (cc)
taken_on d (Some op) info answers P there busy part h =
    subst P (sym (done_take d d.live op info answers (phase_is_take op.phase (call.Snapshot info) busy part))) h

copy_taken : (l : Live) (op : Op) (c : Call) (answers : List Answer) → core_of_take c ≡ core.Snapshot → take_asks l op c answers ≡ tell command.CopyTake ++ tell_if (resumes l op) command.Cont
copy_taken l op (call.Snapshot info) answers e = refl
copy_taken l op (call.Save name) answers e = cc
copy_taken l op (call.Dump name) answers e = cc
copy_taken l op call.Suspend answers e = refl
copy_taken l op call.Resume answers e = refl
copy_taken l op call.Shutdown answers e = refl
copy_taken l op call.Reboot answers e = refl
copy_taken l op call.Destroy answers e = refl
copy_taken l op (call.Define def) answers e = refl
copy_taken l op call.Undefine answers e = refl
copy_taken l op (call.SetAutostart on) answers e = refl
copy_taken l op (call.SetMemory kib) answers e = refl
copy_taken l op (call.SetVcpus n) answers e = refl
copy_taken l op (call.Attach d) answers e = refl
copy_taken l op (call.Detach d) answers e = refl
copy_taken l op call.MemoryStats answers e = refl
copy_taken l op (call.Kick n) answers e = refl
copy_taken l op call.Abort answers e = refl
copy_taken l op (call.SnapDelete name children) answers e = refl
copy_taken l op (call.Limit rest) answers e = refl
copy_taken l op (call.Confirm verdict) answers e = refl
copy_taken l op (call.Finish go) answers e = refl
copy_taken l op call.Start answers e = refl
copy_taken l op (call.Create def) answers e = refl
copy_taken l op (call.Restore def running saved) answers e = refl
copy_taken l op (call.Revert name) answers e = refl
copy_taken l op call.Perform answers e = refl
copy_taken l op (call.Prepare def running saved) answers e = refl

plan_by : (d : Domain) (l : Live) (op : Op) (c : Call) (answers : List Answer) (p : Phase) → core_of_phase p c ≡ core.Snapshot → live_phase_plan d l op c answers p ≡ plan_at l op p
plan_by d l op c answers phase.Nothing s = refl
plan_by d l op c answers phase.Take s = ap (undone_by []) (copy_taken l op c answers s)
plan_by d l op c answers phase.Make s = cc
plan_by d l op c answers phase.Run s = cc
plan_by d l op c answers phase.Load s = cc
plan_by d l op c answers phase.Copy s = cc
plan_by d l op c answers phase.Poll s = cc
plan_by d l op c answers phase.Quit s = cc
plan_by d l op c answers phase.Cancel s = cc
plan_by d l op c answers phase.MigrateCopy s = cc
plan_by d l op c answers phase.MigrateTake s = cc
plan_by d l op c answers phase.MigrateCancel s = cc
plan_by d l op c answers phase.MigrateLoad s = cc
plan_by d l op c answers phase.Resting s = cc
plan_by d l op c answers phase.MigrateQuit s = cc
plan_by d l op c answers phase.MigrateBack s = cc
plan_by d l op c answers phase.MigrateRun s = cc
plan_by d l op c answers phase.MigrateDrop s = cc

plan_on_both : (d : Domain) (live : Option Live) (op : Op) (c : Call) (answers : List Answer) → core_of_phase op.phase c ≡ core.Snapshot → phase_plan d live op c answers ≡ due_plan_on live (Some op)
plan_on_both d None op c answers s = refl
plan_on_both d (Some l) op c answers s = plan_by d l op c answers op.phase s

plan_without : (live : Option Live) → due_plan_on live None ≡ []
plan_without None = refl
plan_without (Some l) = refl

plan_on_op : (d : Domain) (op : Option Op) (c : Call) (answers : List Answer) → core_on op c ≡ core.Snapshot → plan_on d op c answers ≡ due_plan_on d.live op
plan_on_op d None c answers s = sym (plan_without d.live)
plan_on_op d (Some op) c answers s = plan_on_both d d.live op c answers s

-- the plan of the due phase of a domain
pub next_due :
    (d : Domain) (o : OpenOperation) (answers : List Answer) → carries_ended (state.Held d) o.boot ≡ false → Serves core.Snapshot (state.Held d) o
    → next_of (phase_still_asked (state.Held d) o answers) ≡ next_at (due_plan d) (place_after answers)
next_due d o answers live part =
    ap next_of (phase_plan_left (state.Held d) o answers live)
    ∙ ap (λ plan. next_of (asks_left plan answers)) (plan_on_op d d.op o.call answers (part live))
    ∙ next_is_at (due_plan d) answers

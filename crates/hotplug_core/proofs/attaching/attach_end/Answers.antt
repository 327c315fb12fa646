-- By the fault of the call, and by the first answer that is not Ok.
use Rattle.std.proofs.Common.{sym, subst}
use Rattle.domain_spec.specs.Types.call
use Rattle.hotplug_core.proofs.Judged.{attach_on_guest, attach_step, done_after, refused_after, refused_first}
use Rattle.hotplug_core.specs.Left.{Leaves}
use Rattle.domain_spec.specs.Sequential.{seq}
use Rattle.domain_spec.specs.Types.{State}
use Rattle.hotplug_core.proofs.attaching.attach_end.Goals as goal

pub returns-in-Some : goal.returns-in-Some
returns-in-Some c =
    refused_first c.args.state.now (call.Attach c.args.new.device) c.args.boot c.args.answers.now _ c.refused.result (attach_on_guest c.args.state.now c.args.new.device) (rw c.as_ref.ensures at c.in-Some.ensures) c.refused.ensures

pub returns-in-Some-first_bad : goal.returns-in-Some-first_bad
returns-in-Some-first_bad c =
    refused_after c.args.state.now (call.Attach c.args.new.device) c.args.boot c.args.answers.now c.in-Some-first_bad.bad.now _ c.refused-in-Some-first_bad.result (attach_on_guest c.args.state.now c.args.new.device) (rw c.as_ref.ensures at c.in-None.ensures) c.in-Some-first_bad.ensures c.failure_of.ensures c.refused-in-Some-first_bad.ensures

pub returns-in-None-first_bad : goal.returns-in-None-first_bad
returns-in-None-first_bad c =
    let s = c.args.state.now in
    let asks = call.Attach c.args.new.device in
    subst (λ (new : State). Leaves (seq s asks c.args.boot c.args.answers.now) new c.done.result) (sym c.attach_in.ensures)
    (done_after s _ asks c.args.boot c.args.answers.now c.done.result (attach_on_guest s c.args.new.device) (rw c.as_ref.ensures at c.in-None.ensures) c.in-None-first_bad.ensures (attach_step s c.args.new.device c.args.answers.now) c.done.ensures)

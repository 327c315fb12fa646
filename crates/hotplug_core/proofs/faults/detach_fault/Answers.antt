-- A boot that has ended refuses the call.
use Rattle.std.proofs.Common.{sym, ◌∙◌}
use Rattle.domain_spec.specs.Types.call
use Rattle.hotplug_core.proofs.Judged.{ended_before}
use Rattle.hotplug_core.proofs.faults.detach_fault.Goals as goal

pub returns-then-carries_ended : goal.returns-then-carries_ended
returns-then-carries_ended c =
    c.fault_for.ensures c.args.device.now ∙ c.boot_ended.ensures
    ∙ sym (ended_before c.args.state.now (call.Detach c.args.device.now) c.args.boot (sym c.carries_ended.ensures ∙ c.if-carries_ended.true))

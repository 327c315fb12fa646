use Rattle.std.proofs.Common.{◌-◌, length}
use Rattle.core_plan.specs.PhaseGoing.{phase_planned}
use Rattle.core_plan.specs.Probing.{undo_behind}
use Rattle.core_plan.proofs.phase_probe.+put_undo.Given as goal

abbrev pub decreases-put_undo : goal.decreases-put_undo
decreases-put_undo l = length (undo_behind (phase_planned l.state.now l.operation.now) l.of) - length l.undo.now

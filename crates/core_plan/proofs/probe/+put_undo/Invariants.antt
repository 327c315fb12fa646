use Rattle.std.proofs.Common.{◌-◌, length}
use Rattle.core_mark_laws.specs.Tidy.{planned}
use Rattle.core_plan.specs.Probing.{undo_behind}
use Rattle.core_plan.proofs.probe.+put_undo.Given as goal

abbrev pub decreases-put_undo : goal.decreases-put_undo
decreases-put_undo l = length (undo_behind (planned l.state.now l.call.now l.boot) l.of) - length l.undo.now

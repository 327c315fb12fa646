use Rattle.std.proofs.Common.{◌-◌, length}
use Rattle.snapshot_core.proofs.deletion.+is_met.Given as goal

abbrev pub decreases-is_met : goal.decreases-is_met
decreases-is_met l = length l.snaps.now - l.steps

use Rattle.std.proofs.Common.{length}
use Rattle.daemon.proofs.closing.+unkept_by.Given as goal

abbrev pub decreases-unkept_by : goal.decreases-unkept_by
decreases-unkept_by g l = length l.rows.now.list

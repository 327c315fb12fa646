use Rattle.std.proofs.Common.{length}
use Rattle.lifecycle_core.proofs.phase_asks.+leases_then_make.Given as goal

abbrev pub decreases-leases_then_make : goal.decreases-leases_then_make
decreases-leases_then_make l = length l.interfaces.now

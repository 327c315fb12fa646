use Rattle.std.proofs.Common.{length}
use Rattle.types_eq.proofs.parts.+same_all.Given as goal

abbrev pub decreases-same_all : goal.decreases-same_all
decreases-same_all g l = length l.these.now

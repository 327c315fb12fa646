use Rattle.std.proofs.Common.{length}
use Rattle.core_plan.proofs.made.+put_made.Given as goal

abbrev pub decreases-put_made : goal.decreases-put_made
decreases-put_made l = length l.answers.now

use Rattle.std.proofs.Common.{length}
use Rattle.core_rules.proofs.answers.+last_value.Given as goal

abbrev pub decreases-last_value : goal.decreases-last_value
decreases-last_value l = length l.answers.now

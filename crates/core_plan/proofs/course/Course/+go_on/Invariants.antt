use Rattle.std.proofs.Common.{◌-◌, length}
use Rattle.core_plan.specs.Along.{most_asks}
use Rattle.core_plan.proofs.course.Course.+go_on.Given as goal

abbrev pub decreases-go_on : goal.decreases-go_on
decreases-go_on l = most_asks l.self.now.plan - length l.self.now.answers

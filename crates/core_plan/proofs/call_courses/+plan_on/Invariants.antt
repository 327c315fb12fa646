use Rattle.std.proofs.Common.{◌-◌, length}
use Rattle.core_mark_laws.specs.Tidy.{planned}
use Rattle.core_plan.proofs.call_courses.+plan_on.Given as goal

abbrev pub decreases-plan_on : goal.decreases-plan_on
decreases-plan_on l = length (planned l.state.now l.call.now l.boot) - length l.plan.now

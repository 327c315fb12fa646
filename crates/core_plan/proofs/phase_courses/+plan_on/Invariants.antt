use Rattle.std.proofs.Common.{◌-◌, length}
use Rattle.core_plan.specs.PhaseGoing.{phase_planned}
use Rattle.core_plan.proofs.phase_courses.+plan_on.Given as goal

abbrev pub decreases-plan_on : goal.decreases-plan_on
decreases-plan_on l = length (phase_planned l.state.now l.operation.now) - length l.plan.now

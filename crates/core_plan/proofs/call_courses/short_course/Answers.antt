use Rattle.std.proofs.Common.{◌≡◌, [], List, IfOk, subst}
use Rattle.domain_spec.specs.declared.planned.PlannedAsk.{PlannedAsk}
use Rattle.core_plan.specs.Along.{Asked}
use Rattle.core_plan.proofs.Probing.{one_at_most}
use Rattle.core_plan.proofs.call_courses.short_course.Goals as goal

pub returns-in-Ok : goal.returns-in-Ok
returns-in-Ok c =
    let a = c.args in
    subst (λ (plan : List PlannedAsk). IfOk c.of_one.result (λ course. course ≡ record { plan = plan; answers = [] }))
    (one_at_most a.state.now a.call.now a.boot c.in-Ok.ask c.requires c.in-Ok.ensures) c.of_one.ensures

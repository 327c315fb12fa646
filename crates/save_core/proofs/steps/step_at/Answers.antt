use Rattle.std.proofs.Common.{rules, ◌∙◌, ap}
use Rattle.core_rules.specs.Place.{next_at}
use Rattle.save_core.proofs.PlainPlans.{plain_plan}
use Rattle.save_core.proofs.steps.step_at.Goals as goal

-- a take that stops the guest
pub returns-in-MigrateTake : goal.returns-in-MigrateTake
returns-in-MigrateTake c = λ answers.
    rw c.in-MigrateTake.is (c.migrate_take_step_at.ensures c.args.domain.now c.args.op.now c.args.call.now answers)

-- any other phase
pub returns-in_default : goal.returns-in_default
returns-in_default c = λ answers.
    ap (λ plan. next_at plan c.args.place)
    (plain_plan c.args.domain.now c.args.live.now c.args.op.now c.args.call.now answers c.args.op.now.phase (search rules))
    ∙ c.plain_step_at.ensures answers

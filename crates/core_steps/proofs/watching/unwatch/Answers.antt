use Rattle.core_steps.proofs.ClientKeeping.{unwatch_ends, unwatch_keeps}
use Rattle.core_steps.proofs.watching.unwatch.Goals as goal

pub returns-clause-kept : goal.returns-clause-kept
returns-clause-kept c held ears rooms k =
    unwatch_keeps c.args.kept.now c.unwatch.new.self held ears rooms c.args.by.number c.args.client k c.unwatch.ensures.marked c.unwatch.ensures.course c.unwatch.ensures.spare

pub returns-clause-ends : goal.returns-clause-ends
returns-clause-ends c rooms end =
    unwatch_ends c.args.kept.now c.unwatch.new.self rooms c.args.by.number c.args.client c.unwatch.ensures.marked c.unwatch.ensures.course c.unwatch.ensures.spare end

use Rattle.core_steps.proofs.Ended.{end_leaves}
use Rattle.core_steps.proofs.ending.end_op.Goals as goal

pub returns-clause-marks : goal.returns-clause-marks
returns-clause-marks c rooms has =
    end_leaves c.args.kept.now c.end.new.self c.args.by.number c.args.who rooms c.requires.over c.end.ensures.marked c.end.ensures.course c.end.ensures.spare has

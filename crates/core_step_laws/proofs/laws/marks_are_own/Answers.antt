use Rattle.core_step_laws.proofs.Marks.{marks_are_own}
use Rattle.core_step_laws.proofs.laws.marks_are_own.Goals as goal

pub returns : goal.returns
returns c = marks_are_own

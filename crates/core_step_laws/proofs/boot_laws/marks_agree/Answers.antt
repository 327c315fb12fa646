use Rattle.core_step_laws.proofs.Agreeing.{marks_agree}
use Rattle.core_step_laws.proofs.boot_laws.marks_agree.Goals as goal

pub returns : goal.returns
returns c = marks_agree

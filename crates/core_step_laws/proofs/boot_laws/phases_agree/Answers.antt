use Rattle.core_step_laws.proofs.Agreeing.{phases_agree}
use Rattle.core_step_laws.proofs.boot_laws.phases_agree.Goals as goal

pub returns : goal.returns
returns c = phases_agree

use Rattle.core_step_laws.proofs.Made.{made_by_its_make}
use Rattle.core_step_laws.proofs.boot_laws.made_by_its_make.Goals as goal

pub returns : goal.returns
returns c = made_by_its_make

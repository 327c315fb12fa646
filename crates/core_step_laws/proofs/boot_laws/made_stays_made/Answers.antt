use Rattle.core_step_laws.proofs.Made.{made_stays_made}
use Rattle.core_step_laws.proofs.boot_laws.made_stays_made.Goals as goal

pub returns : goal.returns
returns c = made_stays_made

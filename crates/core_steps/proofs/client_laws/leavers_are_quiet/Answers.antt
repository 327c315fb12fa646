use Rattle.core_steps.proofs.Finding.{leavers_are}
use Rattle.core_steps.proofs.client_laws.leavers_are_quiet.Goals as goal

pub returns : goal.returns
returns c = leavers_are

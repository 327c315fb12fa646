use Rattle.core_steps.proofs.Finding.{takers_are}
use Rattle.core_steps.proofs.client_laws.takers_are_registered.Goals as goal

pub returns : goal.returns
returns c = takers_are

use Rattle.core_step_laws.proofs.Operations.{operations_stay}
use Rattle.core_step_laws.proofs.laws.operations_stay.Goals as goal

pub returns : goal.returns
returns c = operations_stay

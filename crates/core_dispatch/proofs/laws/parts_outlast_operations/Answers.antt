use Rattle.core_dispatch.proofs.Outlasts.{outlasts_operations}
use Rattle.core_dispatch.proofs.laws.parts_outlast_operations.Goals as goal

pub returns : goal.returns
returns c = outlasts_operations

use Rattle.core_plan.proofs.Staying.{end_keeps}
use Rattle.core_plan.proofs.call_laws.ends_of_operations_keep.Goals as goal

pub returns : goal.returns
returns c = end_keeps

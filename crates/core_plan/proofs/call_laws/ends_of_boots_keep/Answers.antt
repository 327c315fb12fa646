use Rattle.core_plan.proofs.Staying.{exit_keeps}
use Rattle.core_plan.proofs.call_laws.ends_of_boots_keep.Goals as goal

pub returns : goal.returns
returns c = exit_keeps

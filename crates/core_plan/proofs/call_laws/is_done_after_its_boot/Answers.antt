use Rattle.core_plan.proofs.Finishing.{is_done_ended}
use Rattle.core_plan.proofs.call_laws.is_done_after_its_boot.Goals as goal

pub returns : goal.returns
returns c = is_done_ended

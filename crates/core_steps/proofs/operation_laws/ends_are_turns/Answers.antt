use Rattle.core_steps.proofs.Ended.{ends_are}
use Rattle.core_steps.proofs.operation_laws.ends_are_turns.Goals as goal

pub returns : goal.returns
returns c = ends_are

use Rattle.core_steps.proofs.Phased.{phases_are}
use Rattle.core_steps.proofs.operation_laws.phases_are_turns.Goals as goal

pub returns : goal.returns
returns c = phases_are

use Rattle.core_steps.proofs.Begun.{begins_are}
use Rattle.core_steps.proofs.operation_laws.begins_are_turns.Goals as goal

pub returns : goal.returns
returns c = begins_are

use Rattle.core_steps.proofs.Begun.{take_ups_are}
use Rattle.core_steps.proofs.operation_laws.take_ups_are_turns.Goals as goal

pub returns : goal.returns
returns c = take_ups_are

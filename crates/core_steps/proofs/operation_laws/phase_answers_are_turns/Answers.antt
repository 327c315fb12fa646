use Rattle.core_steps.proofs.Backed.{phases_go_back}
use Rattle.core_steps.proofs.operation_laws.phase_answers_are_turns.Goals as goal

pub returns : goal.returns
returns c = phases_go_back

use Rattle.core_steps.proofs.Refused.{refused_are}
use Rattle.core_steps.proofs.laws.refusals_are_turns.Goals as goal

pub returns : goal.returns
returns c = refused_are

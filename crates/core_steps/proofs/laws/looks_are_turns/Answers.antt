use Rattle.core_steps.proofs.Looks.{looks_are}
use Rattle.core_steps.proofs.laws.looks_are_turns.Goals as goal

pub returns : goal.returns
returns c = looks_are

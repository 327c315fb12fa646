use Rattle.outcome_spec.proofs.Going.{answers_stay}
use Rattle.outcome_spec.proofs.laws.answers_stay_true.Goals as goal

pub returns : goal.returns
returns c = answers_stay

use Rattle.outcome_spec.proofs.LawProofs.{reads_not_before}
use Rattle.outcome_spec.proofs.laws.reads_are_not_from_before.Goals as goal

pub returns : goal.returns
returns c = reads_not_before

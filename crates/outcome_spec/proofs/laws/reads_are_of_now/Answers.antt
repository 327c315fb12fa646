use Rattle.outcome_spec.proofs.LawProofs.{reads_of_now}
use Rattle.outcome_spec.proofs.laws.reads_are_of_now.Goals as goal

pub returns : goal.returns
returns c = reads_of_now

use Rattle.outcome_spec.proofs.Sequentially.{replies_are_sequential}
use Rattle.outcome_spec.proofs.laws.replies_are_sequential.Goals as goal

pub returns : goal.returns
returns c = replies_are_sequential

use Rattle.outcome_spec.proofs.LawProofs.{marks_are_of_one}
use Rattle.outcome_spec.proofs.laws.marks_are_of_one_request.Goals as goal

pub returns : goal.returns
returns c = marks_are_of_one

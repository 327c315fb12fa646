use Rattle.domain_spec.proofs.OpenProofs.{one_operation}
use Rattle.domain_spec.proofs.laws.one_operation_at_a_time.Goals as goal

pub returns : goal.returns
returns c = one_operation

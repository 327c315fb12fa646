use Rattle.domain_spec.proofs.OpenProofs.{one_job}
use Rattle.domain_spec.proofs.laws.one_job_at_a_time.Goals as goal

pub returns : goal.returns
returns c = one_job

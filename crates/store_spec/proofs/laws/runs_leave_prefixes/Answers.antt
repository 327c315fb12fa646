use Rattle.store_spec.proofs.Runs.{runs_leave_prefixes}
use Rattle.store_spec.proofs.laws.runs_leave_prefixes.Goals as goal

pub returns : goal.returns
returns c = runs_leave_prefixes

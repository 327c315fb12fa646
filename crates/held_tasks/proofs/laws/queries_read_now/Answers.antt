use Rattle.held_tasks.proofs.Requests.{queries_now}
use Rattle.held_tasks.proofs.laws.queries_read_now.Goals as goal

pub returns : goal.returns
returns c = queries_now

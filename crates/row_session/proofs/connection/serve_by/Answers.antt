use Rattle.row_session.proofs.Counting.{has_served}
use Rattle.row_session.proofs.connection.serve_by.Goals as goal

pub returns-clause-served : goal.returns-clause-served
returns-clause-served g c = has_served _ _ _ _ _ _ _ _ _ _ c.serve_all-runner.ensures.course

use Rattle.row_session.proofs.Courses.{ends_at_once}
use Rattle.row_session.proofs.calls.Calls.serve_all.Goals as goal

pub returns-in-Err-clause-course : goal.returns-in-Err-clause-course
returns-in-Err-clause-course g c = ends_at_once _ _ _ _ _

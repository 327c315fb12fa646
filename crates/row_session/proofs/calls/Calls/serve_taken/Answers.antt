use Rattle.std.proofs.Common.{sym, ◌∙◌}
use Rattle.row_session.proofs.Courses.{bad_ends, closed_ends, stopped_ends}
use Rattle.row_session.proofs.calls.Calls.serve_taken.Goals as goal

pub returns-in-Err-SinkFault-clause-some : goal.returns-in-Err-SinkFault-clause-some
returns-in-Err-SinkFault-clause-some g c =
    let err = rw (rw c.in-Err-SinkFault.is at c.in-Err-SinkFault.field-0-is) at (rw c.in-Err-SinkFault.is at c.serve_ready-runner.ensures.err) in
    stopped_ends _ _ _ _ _ _ _ _ _ err c.requires.split.each

pub returns-in-Err-NoMemory-clause-some : goal.returns-in-Err-NoMemory-clause-some
returns-in-Err-NoMemory-clause-some g c =
    let err = rw (rw c.in-Err-NoMemory.is at c.in-Err-NoMemory.field-0-is) at (rw c.in-Err-NoMemory.is at c.serve_ready-runner.ensures.err) in
    stopped_ends _ _ _ _ _ _ _ _ _ err c.requires.split.each

pub returns-in-Ok-Closed-clause-some : goal.returns-in-Ok-Closed-clause-some
returns-in-Ok-Closed-clause-some g c =
    let ok = rw (rw c.in-Ok-Closed.is at c.in-Ok-Closed.field-0-is) at (rw c.in-Ok-Closed.is at c.serve_ready-runner.ensures.ok) in
    closed_ends _ _ _ _ _ _ _ _ ok c.requires.split.each

pub returns-in-Some-clause-some : goal.returns-in-Some-clause-some
returns-in-Some-clause-some g c =
    let ok = rw (rw c.in-Ok-On.is at c.in-Ok-On.field-0-is) at (rw c.in-Ok-On.is at c.serve_ready-runner.ensures.ok) in
    bad_ends _ _ _ _ _ _ _ _ _ ok.0 c.requires.split.each (sym c.requires.bad ∙ c.in-Some.is)

use Rattle.row_session.proofs.Dues.{call_cut, call_said}
use Rattle.row_session.proofs.calls.Calls.answer.Goals as goal

pub returns-in-Ok-reply-clause-ok : goal.returns-in-Ok-reply-clause-ok
returns-in-Ok-reply-clause-ok g c =
    let it = rw c.in-Ok.is at c.run-runner.ensures.told in
    call_said _ _ _ _ _ _ _ _ _ c.requires.call it c.in-Ok-reply.ensures.ok c.in-Ok-reply.ensures.flow

pub returns-in-Ok-clause-err : goal.returns-in-Ok-clause-err
returns-in-Ok-clause-err g c =
    let it = rw c.in-Ok.is at c.run-runner.ensures.told in
    call_cut _ _ _ _ _ _ _ _ _ c.requires.call it c.in-Err-reply.ensures.err

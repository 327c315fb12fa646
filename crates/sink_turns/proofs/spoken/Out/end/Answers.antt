use Rattle.sink_turns.proofs.Closing.{ends_cut, ends_failed, ends_seen, ends_whole}
use Rattle.sink_turns.proofs.spoken.Out.end.Goals as goal

pub returns-then-is_cut : goal.returns-then-is_cut
returns-then-is_cut g c = ends_seen _ _ _ _ _ c.self.view_is (ends_failed _ _ _ c.self.invariant _ c.if-is_cut.true)

pub returns-in-Ok : goal.returns-in-Ok
returns-in-Ok g c =
    ends_seen _ _ _ _ _ c.self.view_is
    (ends_whole _ _ _ c.self.invariant _ _ _ c.if-is_cut.false (rw c.deref.ensures.value at c.in-Ok.ensures.taken) c.put_all.ensures.cause.later)

pub returns : goal.returns
returns g c =
    let took = rw c.deref.ensures.value at c.in-Err.ensures.taken in
    ends_seen _ _ _ _ _ c.self.view_is
    (ends_cut _ _ _ c.self.invariant _ _ c.in-Err.field-0 _ c.if-is_cut.false took.0 took.1 c.put_all.ensures.cause.later c.in-Err.ensures.cause.failed)

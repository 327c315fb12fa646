-- Those that are left so far are fewer than the table has places, and none of them is the next.
use Rattle.std.proofs.Common.{take, length-take, arith}
use Rattle.job_rules.proofs.Callers.{left_is_less, other_than_left}
use Rattle.job_rules.proofs.waiters.Waiters.unwait.Goals as goal

pub push-requires-clause-room : goal.push-requires-clause-room
push-requires-clause-room c =
    let before = take c.loop-waiter.waiter-index c.as_slice-waiter-items.result.now in
    rw c.loop-waiter.invariant.0 (omega (arith, left_is_less before c.args.who, length-take c.loop-waiter.waiter-index c.as_slice-waiter-items.result.now, c.loop-waiter-test.true, c.loop-waiter.invariant.2))

pub push-requires-clause-other : goal.push-requires-clause-other
push-requires-clause-other c =
    rw c.loop-waiter.invariant.0 (other_than_left _ _ _ _ c.loop-waiter.invariant.1 c.loop-waiter-test.true)

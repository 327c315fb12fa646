-- The callers so far are those before the place that was reached, without the one who waits no more.
use Rattle.std.proofs.Common.{◌≡◌, ◌≤◌, length, take}
use Rattle.domain_spec.specs.Open.{AreDistinct}
use Rattle.job_rules.specs.Waiting.{without}
use Rattle.job_rules.proofs.waiters.Waiters.unwait.Given as goal

abbrev pub invariant-loop-waiter : goal.invariant-loop-waiter
invariant-loop-waiter l =
    (l.others ≡ without (take l.waiter-index l.waiter-items) l.who)
    × AreDistinct l.waiter-items × (length l.waiter-items ≤ 32)

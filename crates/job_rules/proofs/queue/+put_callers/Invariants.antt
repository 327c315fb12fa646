use Rattle.std.proofs.Common.{length}
use Rattle.job_rules.proofs.queue.+put_callers.Given as goal

abbrev pub decreases-put_callers : goal.decreases-put_callers
decreases-put_callers l = length l.waiters.now

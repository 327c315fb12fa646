-- The table stays filled from the front.
use Rattle.job_rules.proofs.Tables.{filled_more}
use Rattle.job_rules.proofs.waiters.Waiters.push.Goals as goal

pub invariant_of-self : goal.invariant_of-self
invariant_of-self c = filled_more _ _ _ c.self.invariant (rw c.self.view_is c.requires.room) (rw c.self.view_is c.requires.other)

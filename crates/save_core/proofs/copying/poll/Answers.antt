use Rattle.save_core.proofs.Both.{with_op}
use Rattle.save_core.proofs.copying.poll.Goals as goal

-- the operation that is there
pub returns-in-Some : goal.returns-in-Some
returns-in-Some c = with_op _ _ _ _ c.in-Some.is (c.poll_step.ensures c.args.domain.now)

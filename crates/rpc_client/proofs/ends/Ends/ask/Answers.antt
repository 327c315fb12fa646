use Rattle.rpc_client.proofs.Missing.{miss_fails}
use Rattle.rpc_client.proofs.ends.Ends.ask.Goals as goal

pub returns-in-Ok-next_reply-clause-err : goal.returns-in-Ok-next_reply-clause-err
returns-in-Ok-next_reply-clause-err g c = miss_fails _ _ _ _ _ _ _ _ _ _ _ c.in-Ok.ensures.ok c.in-Ok-next_reply.ensures.ok c.answer_of.ensures.value

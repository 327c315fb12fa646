use Rattle.std.proofs.Common.{Some, sym}
use Rattle.rpc_client.specs.Calling.{Connection, FailsOrNoMemory}
use Rattle.std.specs.Prelude.{IfErr}
use Rattle.std.proofs.Common.{subst}
use Rattle.rpc_client.proofs.Missing.{call_fails}
use Rattle.rpc_client.proofs.client.Client.call.Goals as goal

pub returns-in-Err-clause-err : goal.returns-in-Err-clause-err
returns-in-Err-clause-err g c = λ _. rw (← c.self.view_is) (call_fails _ _ _ _ _ _ _ c.self.inside.fault (Some c.in-Err.fault) c.ask-answer.result c.ask-answer.ensures.err)

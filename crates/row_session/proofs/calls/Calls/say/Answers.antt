use Rattle.std.proofs.Common.{sym, ◌∙◌}
use Rattle.row_session.proofs.Dues.{ping_said}
use Rattle.row_session.proofs.calls.Calls.say.Goals as goal

pub returns-in-Ok-clause-ok : goal.returns-in-Ok-clause-ok
returns-in-Ok-clause-ok g c = ping_said _ _ _ _ _ _ _ c.if-packet-eq-CALL.false (sym c.is_ping.ensures ∙ c.if-is_ping.true) c.in-Ok.ensures.ok c.in-Ok.ensures.flow

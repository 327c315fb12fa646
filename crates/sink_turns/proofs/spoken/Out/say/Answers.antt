use Rattle.std.proofs.Common.{sym, ◌∙◌}
use Rattle.sink_turns.proofs.Leaving.{said_failed, said_left, said_put}
use Rattle.sink_turns.proofs.spoken.Out.say.Goals as goal

pub returns-then-has_failed : goal.returns-then-has_failed
returns-then-has_failed g c = said_failed g.number c.args.message.now c.args.more c.args.self.now (sym c.has_failed.ensures ∙ c.if-has_failed.true)

pub returns-then-does_wait : goal.returns-then-does_wait
returns-then-does_wait g c =
    said_left g.number c.args.message.now c.args.more c.leave.result c.args.self.now c.leave.new.self (sym c.has_failed.ensures ∙ c.if-has_failed.false) (sym c.does_wait.ensures ∙ c.if-does_wait.true)
    c.leave.ensures.ok c.leave.ensures.err c.leave.ensures.same

pub returns : goal.returns
returns g c =
    said_put g.number c.args.message.now c.args.more c.put.result c.args.self.now c.put.new.self (sym c.has_failed.ensures ∙ c.if-has_failed.false) (sym c.does_wait.ensures ∙ c.if-does_wait.false) c.put.ensures

use Rattle.virsh.proofs.Answering.{answered, not_answered}
use Rattle.virsh.proofs.calls.ask.Goals as goal

pub returns-in-Ok-clause-ok : goal.returns-in-Ok-clause-ok
returns-in-Ok-clause-ok g c = answered g.S.Source.left g.S.Source.faults g.K.Sink.held g.K.Sink.faults c.args.request.now c.args.client.now c.call.new.self c.in-Ok.reply c.has_event.result c.take_answer.result c.in-Ok.ensures.ok c.has_event.ensures c.take_answer.ensures.ok

pub returns-in-Ok-clause-err : goal.returns-in-Ok-clause-err
returns-in-Ok-clause-err g c = not_answered g.S.Source.left g.S.Source.faults g.K.Sink.held g.K.Sink.faults c.args.request.now c.args.client.now c.call.new.self c.in-Ok.reply c.has_event.result c.take_answer.result c.in-Ok.ensures.ok c.has_event.ensures c.take_answer.ensures.err

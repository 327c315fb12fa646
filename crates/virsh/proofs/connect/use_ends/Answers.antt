use Rattle.virsh.proofs.Doing.{connected}
use Rattle.virsh.proofs.connect.use_ends.Goals as goal

pub returns-in-Ok : goal.returns-in-Ok
returns-in-Ok g c = connected g.D.S.Source.left g.D.S.Source.faults g.D.K.Sink.held g.D.K.Sink.faults g.D.O.Sink.held g.D.O.Sink.faults c.args.job.now c.args.xml.now c.args.source c.args.sink (g.D.Dial.given c.args.dial.now) (g.D.Dial.given c.run-done.new.dial) (g.D.Dial.given c.say_end-status.new.dial) (g.D.Dial.given c.ended.new.self) c.in-Ok.client c.run-done.new.client c.close-source.result.0 c.close-source.result.1 c.run-done.result c.say_end-status.result
    c.in-Ok.ensures.ok c.run-done.ensures.run c.run-done.ensures.rest c.say_end-status.ensures c.close-source.ensures.source c.close-source.ensures.sink c.ended.ensures

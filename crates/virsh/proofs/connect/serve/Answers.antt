use Rattle.std.proofs.Common.{refl}
use Rattle.virsh.proofs.Doing.{alone, dialed}
use Rattle.virsh.proofs.connect.serve.Goals as goal

pub returns-in-Ok-dial : goal.returns-in-Ok-dial
returns-in-Ok-dial g c = dialed g.D.S.Source.left g.D.S.Source.faults g.D.K.Sink.held g.D.K.Sink.faults g.D.O.Sink.held g.D.O.Sink.faults c.args.job.now c.args.xml.now c.in-Ok.address (c.in-Ok-dial.source, c.in-Ok-dial.sink) (g.D.Dial.given c.args.dial.now) (g.D.Dial.given c.dial.new.self) (g.D.Dial.given c.use_ends.new.dial) c.use_ends.result c.in-Ok.ensures c.in-Ok-dial.ensures c.use_ends.ensures

pub returns : goal.returns
returns g c = alone g.D.S.Source.left g.D.S.Source.faults g.D.K.Sink.held g.D.K.Sink.faults g.D.O.Sink.held g.D.O.Sink.faults c.args.job.now c.args.xml.now (g.D.Dial.given c.args.dial.now) (g.D.Dial.given c.dial.new.self) (g.D.Dial.given c.say_link.new.dial) 5 c.in-Err-dial.ensures c.say_link.ensures refl

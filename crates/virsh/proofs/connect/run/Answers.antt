use Rattle.virsh.proofs.Printable.{printable}
use Rattle.virsh.proofs.Telling.{ran, stopped}
use Rattle.virsh.proofs.connect.run.Goals as goal

pub print_all-requires-clause-printable : goal.print_all-requires-clause-printable
print_all-requires-clause-printable g c = printable g.D.S.Source.left g.D.S.Source.faults g.D.K.Sink.held g.D.K.Sink.faults c.args.job.now c.args.xml.now c.args.client.now c.ask_all.new.client c.in-Ok.values c.requires.served c.in-Ok.ensures.ok

pub returns-in-Ok-clause-run : goal.returns-in-Ok-clause-run
returns-in-Ok-clause-run g c = ran g.D.S.Source.left g.D.S.Source.faults g.D.K.Sink.held g.D.K.Sink.faults g.D.O.Sink.held g.D.O.Sink.faults c.args.job.now c.args.xml.now c.args.client.now c.ask_all.new.client c.print_all.new.client (g.D.Dial.given c.args.dial.now).out (g.D.Dial.given c.print_all.new.dial).out c.in-Ok.values c.print_all.result c.in-Ok.ensures.ok c.print_all.ensures.told

pub returns-in-Err-clause-run : goal.returns-in-Err-clause-run
returns-in-Err-clause-run g c = stopped g.D.S.Source.left g.D.S.Source.faults g.D.K.Sink.held g.D.K.Sink.faults g.D.O.Sink.held g.D.O.Sink.faults c.args.job.now c.args.xml.now c.args.client.now c.ask_all.new.client (g.D.Dial.given c.args.dial.now).out c.in-Err.stop c.in-Err.ensures.err

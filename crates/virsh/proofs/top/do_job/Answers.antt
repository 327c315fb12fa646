use Rattle.std.proofs.Common.{ℕ, List, Option, subst}
use Rattle.virsh.specs.Top.{DoesFile}
use Rattle.virsh.proofs.top.do_job.Goals as goal

pub returns-in-Some : goal.returns-in-Some
returns-in-Some g c = subst (λ (f : Option (List ℕ)). DoesFile g.D.S.Source.left g.D.S.Source.faults g.D.K.Sink.held g.D.K.Sink.faults g.D.O.Sink.held g.D.O.Sink.faults c.args.job.now f (g.D.Dial.given c.args.dial.now) (g.D.Dial.given c.read_and_do.new.dial) c.read_and_do.result) c.in-Some.ensures c.read_and_do.ensures

pub returns-in-None : goal.returns-in-None
returns-in-None g c = subst (λ (f : Option (List ℕ)). DoesFile g.D.S.Source.left g.D.S.Source.faults g.D.K.Sink.held g.D.K.Sink.faults g.D.O.Sink.held g.D.O.Sink.faults c.args.job.now f (g.D.Dial.given c.args.dial.now) (g.D.Dial.given c.serve.new.dial) c.serve.result) c.in-None.ensures c.serve.ensures

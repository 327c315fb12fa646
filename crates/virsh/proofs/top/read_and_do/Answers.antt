use Rattle.std.proofs.Common.{inl, inr, refl}
use Rattle.virsh.proofs.Doing.{read}
use Rattle.virsh.proofs.top.read_and_do.Goals as goal

pub returns-in-Ok : goal.returns-in-Ok
returns-in-Ok g c = read g.D.S.Source.left g.D.S.Source.faults g.D.K.Sink.held g.D.K.Sink.faults g.D.O.Sink.held g.D.O.Sink.faults c.args.job.now c.args.file.now c.in-Ok.content (g.D.Dial.given c.args.dial.now) (g.D.Dial.given c.file.new.self) (g.D.Dial.given c.do_with_file.new.dial) c.do_with_file.result c.in-Ok.ensures c.do_with_file.ensures

pub returns-in-Err-Failed : goal.returns-in-Err-Failed
returns-in-Err-Failed g c = inr (inl (record { then = (g.D.Dial.given c.file.new.self); unread = rw c.in-Err-Failed.field-0-is at c.in-Err-Failed.ensures; said = c.say_file.ensures; code_is = refl }))

use Rattle.domain_stories.proofs.Staying.{operation_stays, part_stays, run_stays}
use Rattle.domain_stories.proofs.domain_stage.DomainObjStage.call.Goals as goal

pub returns-then-does_begin : goal.returns-then-does_begin
returns-then-does_begin g c =
    let a = c.args in
    let r = c.run_op-after.result in
    part_stays a.self.now a.pass r.0
    (operation_stays g.G.E.Ears.ends g.G.E.Ears.faults g.G.E.Ears.unheard a.who a.call.now a.pass r.0 (g.D.Desk.report a.desk.now) (g.D.Desk.report c.run_op-after.new.desk) r.1 r.2 c.run_op-after.ensures c.requires.part.free)
    c.requires.part

pub returns-else-does_begin : goal.returns-else-does_begin
returns-else-does_begin g c =
    let a = c.args in
    let r = c.run-after.result in
    part_stays a.self.now a.pass r.0
    (run_stays g.G.E.Ears.ends g.G.E.Ears.faults g.G.E.Ears.unheard a.who a.call.now a.pass r.0 (g.D.Desk.report a.desk.now) (g.D.Desk.report c.run-after.new.desk) r.1 r.2 c.run-after.ensures c.requires.part.free)
    c.requires.part

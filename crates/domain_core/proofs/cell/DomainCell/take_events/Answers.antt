use Rattle.domain_core.proofs.Registering.{taken_kept}
use Rattle.domain_core.proofs.cell.DomainCell.take_events.Goals as goal

pub invariant_of-self : goal.invariant_of-self
invariant_of-self g c =
    let a = c.args in
    let i = c.self.inside in
    let t = c.take_events-taken in
    taken_kept i.turns.turning t.new.self.turning a.by.number a.client t.result i.out c.made.result i.link c.keep.new.link c.self.invariant t.ensures.takes t.ensures.err c.made.ensures c.keep.ensures

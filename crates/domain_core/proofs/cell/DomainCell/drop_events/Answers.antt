use Rattle.domain_core.proofs.Registering.{dropped_kept}
use Rattle.domain_core.proofs.cell.DomainCell.drop_events.Goals as goal

pub invariant_of-self : goal.invariant_of-self
invariant_of-self g c =
    let a = c.args in
    let i = c.self.inside in
    let t = c.drop_events in
    dropped_kept i.turns.turning t.new.self.turning a.by.number a.client i.out c.made.result i.link c.keep.new.link c.self.invariant t.ensures.drops c.made.ensures c.keep.ensures

use Rattle.domain_spec.specs.Kept.{left_queue}
use Rattle.domain_core.proofs.Handing.{rotate_kept}
use Rattle.domain_core.proofs.cell.DomainCell.rotate.Goals as goal

pub invariant_of-self : goal.invariant_of-self
invariant_of-self g c =
    let a = c.args in
    let i = c.self.inside in
    let r = c.rotate-rotated in
    rotate_kept i.turns.turning r.new.self.turning a.by.number a.who r.result (left_queue i.turns.turning.cell.queue a.by.number a.who) i.out c.made.result i.link c.keep.new.link c.self.invariant r.ensures.ok r.ensures.err c.made.ensures c.keep.ensures

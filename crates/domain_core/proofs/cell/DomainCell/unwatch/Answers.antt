use Rattle.domain_spec.specs.declared.core_step.CoreStep.TheVariants as step
use Rattle.domain_core.proofs.Handing.{aside_kept}
use Rattle.domain_core.proofs.cell.DomainCell.unwatch.Goals as goal

pub invariant_of-self : goal.invariant_of-self
invariant_of-self g c =
    let a = c.args in
    let i = c.self.inside in
    let takes = c.unwatch.ensures.leaves in
    aside_kept i.turns.turning c.unwatch.new.self.turning (step.Unwatch a.by.number a.client) takes.0 i.out c.made.result i.link c.keep.new.link tt tt takes.1 c.self.invariant c.made.ensures c.keep.ensures

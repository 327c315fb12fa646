use Rattle.std.proofs.Common.{sym, subst}
use Rattle.domain_spec.specs.Cell.{share_of}
use Rattle.domain_core.specs.Celled.{Celled, cell_in}
use Rattle.domain_core.specs.Shares.{IsFree}
use Rattle.domain_core.proofs.Handing.{enter_kept}
use Rattle.domain_core.proofs.cell.DomainCell.enter_op.Goals as goal

pub invariant_of-self : goal.invariant_of-self
invariant_of-self g c =
    let a = c.args in
    let i = c.self.inside in
    let l = c.enter_op-looked in
    enter_kept i.turns.turning l.new.self.turning a.by.number a.who a.call.now l.result i.out c.made.result i.link c.keep.new.link
    (subst (λ (v : Celled). IsFree (share_of (cell_in v) a.by.number) a.who) (sym c.self.view_is) c.requires.free) c.self.invariant l.ensures.looks c.made.ensures c.keep.ensures

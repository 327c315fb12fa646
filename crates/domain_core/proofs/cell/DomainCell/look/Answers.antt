use Rattle.std.proofs.Common.{is_some, sym, subst}
use Rattle.domain_spec.specs.CanTake.{CanLook}
use Rattle.domain_core.specs.Celled.{Celled, cell_in}
use Rattle.domain_core.specs.Linked.{monitor_in}
use Rattle.domain_core.specs.Tickets.{look_ticket}
use Rattle.domain_core.proofs.Handing.{look_handed, ticket_has}
use Rattle.domain_core.proofs.cell.DomainCell.look.Goals as goal

pub invariant_of-self : goal.invariant_of-self
invariant_of-self g c =
    let a = c.args in
    let i = c.self.inside in
    let l = c.look-looked in
    let h = c.hand_look in
    (look_handed i.turns.turning l.new.self.turning a.by.number a.who a.call.now a.first l.result h.result i.out h.new.out c.made-made.result i.link c.keep.new.link h.new.link
    (subst (λ (v : Celled). CanLook (cell_in v) a.by.number a.who a.call.now a.first) (sym c.self.view_is) c.requires.can) c.self.invariant l.ensures.looks h.ensures.same c.made-made.ensures c.keep.ensures h.ensures.link h.ensures.out).cell

pub returns-clause-ticket : goal.returns-clause-ticket
returns-clause-ticket g c =
    let a = c.args in
    let i = c.self.inside in
    let l = c.look-looked in
    let h = c.hand_look in
    ticket_has (look_ticket h.result) (is_some (monitor_in c.keep.new.link)) (is_some h.new.out) h.ensures.ticket
    (look_handed i.turns.turning l.new.self.turning a.by.number a.who a.call.now a.first l.result h.result i.out h.new.out c.made-made.result i.link c.keep.new.link h.new.link
    (subst (λ (v : Celled). CanLook (cell_in v) a.by.number a.who a.call.now a.first) (sym c.self.view_is) c.requires.can) c.self.invariant l.ensures.looks h.ensures.same c.made-made.ensures c.keep.ensures h.ensures.link h.ensures.out).monitor

use Rattle.std.proofs.Common.{is_some}
use Rattle.domain_core.specs.Linked.{monitor_in}
use Rattle.domain_core.specs.Tickets.{phase_ticket}
use Rattle.domain_core.proofs.Handing.{phase_handed, ticket_has}
use Rattle.domain_core.proofs.cell.DomainCell.phase.Goals as goal

pub invariant_of-self : goal.invariant_of-self
invariant_of-self g c =
    let a = c.args in
    let i = c.self.inside in
    let l = c.phase-looked in
    let h = c.hand_phase in
    (phase_handed i.turns.turning l.new.self.turning a.by.number a.who l.result h.result i.out h.new.out c.made-made.result i.link c.keep.new.link h.new.link
    c.self.invariant l.ensures.phases h.ensures.same c.made-made.ensures c.keep.ensures h.ensures.link h.ensures.out).cell

pub returns-clause-ticket : goal.returns-clause-ticket
returns-clause-ticket g c =
    let a = c.args in
    let i = c.self.inside in
    let l = c.phase-looked in
    let h = c.hand_phase in
    ticket_has (phase_ticket h.result) (is_some (monitor_in c.keep.new.link)) (is_some h.new.out) h.ensures.ticket
    (phase_handed i.turns.turning l.new.self.turning a.by.number a.who l.result h.result i.out h.new.out c.made-made.result i.link c.keep.new.link h.new.link
    c.self.invariant l.ensures.phases h.ensures.same c.made-made.ensures c.keep.ensures h.ensures.link h.ensures.out).monitor

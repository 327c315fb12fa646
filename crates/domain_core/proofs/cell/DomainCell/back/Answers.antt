use Rattle.std.proofs.Common.{Bool, is_some, option_map, sym, ap, ◌∙◌, subst}
use Rattle.domain_core.specs.Celled.{Celled, cell_in}
use Rattle.domain_core.specs.Linked.{monitor_in}
use Rattle.monitor_link.specs.Views.{link_view, monitor_view}
use Rattle.domain_core.specs.Tickets.{IsAnswered, back_ticket}
use Rattle.domain_core.proofs.Handing.{back_handed, may_go_back, some_mapped, ticket_has}
use Rattle.domain_core.proofs.cell.DomainCell.back.Goals as goal

pub back-left-requires-clause-may : goal.back-left-requires-clause-may
back-left-requires-clause-may g c =
    let a = c.args in
    let i = c.self.inside in
    may_go_back i.turns.turning i.out i.link (is_some a.ticket.monitor) a.answer (is_some a.made) c.self.invariant (c.requires.ticket ∙ ap (λ (v : Celled). is_some v.out) (sym c.self.view_is))
    (subst (λ (v : Celled). IsAnswered (cell_in v) (is_some a.ticket.monitor) a.answer (is_some a.made)) (sym c.self.view_is) c.requires.answered)

pub invariant_of-self : goal.invariant_of-self
invariant_of-self g c =
    let a = c.args in
    let i = c.self.inside in
    let l = c.back-left in
    let h = c.hand_back in
    (back_handed i.turns.turning l.new.self.turning a.by.number a.answer (is_some a.ticket.monitor) (option_map (link_view g.G.M.Monitor g.G.E.Ears g.G.Z.Killer) a.made) (option_map (monitor_view g.G.M.Monitor) a.ticket.monitor) l.result h.result i.out h.new.out c.made-now.result c.heard.result i.link c.put_monitor.new.link c.keep_or_take.new.link h.new.link
    (some_mapped (monitor_view g.G.M.Monitor) a.ticket.monitor ∙ c.requires.ticket ∙ ap (λ (v : Celled). is_some v.out) (sym c.self.view_is))
    (subst (λ (b : Bool). IsAnswered i.turns.turning.cell (is_some a.ticket.monitor) a.answer b) (sym (some_mapped (link_view g.G.M.Monitor g.G.E.Ears g.G.Z.Killer) a.made))
    (subst (λ (v : Celled). IsAnswered (cell_in v) (is_some a.ticket.monitor) a.answer (is_some a.made)) (sym c.self.view_is) c.requires.answered)) c.self.invariant l.ensures.back h.ensures.same c.made-now.ensures c.heard.ensures c.put_monitor.ensures c.keep_or_take.ensures h.ensures.link h.ensures.out).cell

pub returns-clause-ticket : goal.returns-clause-ticket
returns-clause-ticket g c =
    let a = c.args in
    let i = c.self.inside in
    let l = c.back-left in
    let h = c.hand_back in
    ticket_has (back_ticket h.result) (is_some (monitor_in c.keep_or_take.new.link)) (is_some h.new.out) h.ensures.ticket
    (back_handed i.turns.turning l.new.self.turning a.by.number a.answer (is_some a.ticket.monitor) (option_map (link_view g.G.M.Monitor g.G.E.Ears g.G.Z.Killer) a.made) (option_map (monitor_view g.G.M.Monitor) a.ticket.monitor) l.result h.result i.out h.new.out c.made-now.result c.heard.result i.link c.put_monitor.new.link c.keep_or_take.new.link h.new.link
    (some_mapped (monitor_view g.G.M.Monitor) a.ticket.monitor ∙ c.requires.ticket ∙ ap (λ (v : Celled). is_some v.out) (sym c.self.view_is))
    (subst (λ (b : Bool). IsAnswered i.turns.turning.cell (is_some a.ticket.monitor) a.answer b) (sym (some_mapped (link_view g.G.M.Monitor g.G.E.Ears g.G.Z.Killer) a.made))
    (subst (λ (v : Celled). IsAnswered (cell_in v) (is_some a.ticket.monitor) a.answer (is_some a.made)) (sym c.self.view_is) c.requires.answered)) c.self.invariant l.ensures.back h.ensures.same c.made-now.ensures c.heard.ensures c.put_monitor.ensures c.keep_or_take.ensures h.ensures.link h.ensures.out).monitor

use Rattle.std.proofs.Common.{is_some, ◌∙◌, subst}
use Rattle.domain_obj.specs.Turns.{HasAnswered}
use Rattle.domain_core.specs.declared.ticket.Back.{Back}
use Rattle.domain_obj.proofs.Going.{finishes, keeps_first, keeps_on, phases, spends}
use Rattle.domain_obj.proofs.finishing.finish.Goals as goal

pub loop-init : goal.loop-init
loop-init g c = (tt, tt, c.requires.own, keeps_first c.args.pass c.args.asked (is_some c.args.ticket.monitor) (g.D.Desk.report c.args.desk.now) c.requires.away)

pub loop-preserved : goal.loop-preserved
loop-preserved g c =
    let answered = subst (λ (b : Back g.row.G.Denot g.row.G-M.Denot g.row.G-E.Denot g.row.G-Z.Denot). HasAnswered c.loop.asked c.ask-answer.result.0 c.loop.pass c.in-Ok.after b c.in-Ok.place) c.in-Away.is c.in-Ok.ensures.ok in (
      tt,
      tt,
      answered.goes.went.same.cell ∙ c.loop.invariant.2,
      keeps_on c.args.pass c.loop.pass c.in-Ok.after c.loop.asked c.in-Away.ask (is_some c.loop.ticket.monitor) c.in-Away.next (g.D.Desk.report c.args.desk.now) (g.D.Desk.report c.loop.desk) (g.D.Desk.report c.ask-answer.new.self) c.ask-answer.result.0 c.in-Ok.place
          c.loop.invariant.3 c.ask-answer.ensures.report answered,
    )

pub returns-in-Done : goal.returns-in-Done
returns-in-Done g c =
    let answered = subst (λ (b : Back g.row.G.Denot g.row.G-M.Denot g.row.G-E.Denot g.row.G-Z.Denot). HasAnswered c.loop.asked c.ask-answer.result.0 c.loop.pass c.in-Ok.after b c.in-Ok.place) c.in-Done.is c.in-Ok.ensures.ok in
    finishes {G = g.row.G.Denot} {M = g.row.G-M.Denot} {E = g.row.G-E.Denot} {Z = g.row.G-Z.Denot} c.args.pass c.loop.pass c.in-Ok.after c.loop.asked (is_some c.loop.ticket.monitor) (g.D.Desk.report c.args.desk.now) (g.D.Desk.report c.loop.desk) (g.D.Desk.report c.ask-answer.new.self) c.ask-answer.result.0 c.in-Done.reply c.in-Ok.place
    c.loop.invariant.3 c.ask-answer.ensures.report answered

pub returns-in-Phased : goal.returns-in-Phased
returns-in-Phased g c =
    let answered = subst (λ (b : Back g.row.G.Denot g.row.G-M.Denot g.row.G-E.Denot g.row.G-Z.Denot). HasAnswered c.loop.asked c.ask-answer.result.0 c.loop.pass c.in-Ok.after b c.in-Ok.place) c.in-Phased.is c.in-Ok.ensures.ok in
    phases {G = g.row.G.Denot} {M = g.row.G-M.Denot} {E = g.row.G-E.Denot} {Z = g.row.G-Z.Denot} c.args.pass c.loop.pass c.in-Ok.after c.loop.asked (is_some c.loop.ticket.monitor) (g.D.Desk.report c.args.desk.now) (g.D.Desk.report c.loop.desk) (g.D.Desk.report c.ask-answer.new.self) c.ask-answer.result.0 c.in-Phased.next c.in-Ok.place
    c.loop.invariant.3 c.ask-answer.ensures.report answered

pub returns-in-Err : goal.returns-in-Err
returns-in-Err g c =
    spends c.args.pass c.loop.pass c.in-Err.after c.loop.asked (is_some c.loop.ticket.monitor) (g.D.Desk.report c.args.desk.now) (g.D.Desk.report c.loop.desk) (g.D.Desk.report c.ask-answer.new.self) c.ask-answer.result.0
    c.loop.invariant.3 c.ask-answer.ensures.report c.in-Err.ensures.spent

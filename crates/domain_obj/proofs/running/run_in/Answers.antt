use Rattle.std.proofs.Common.{refl, subst, ◌∙◌, ap}
use Rattle.domain_obj.specs.InTurn.{DomainPass}
use Rattle.domain_obj.specs.Turned.{HasTried}
use Rattle.domain_obj.specs.declared.attempting.Attempt.{Attempt}
use Rattle.domain_obj.proofs.Calling.{can_end, done_at_once, ended, gave_up, left_undone, looks_again, looks_first, one_more, ready_to_look, spent_waiting, waiters_full}
use Rattle.domain_obj.proofs.running.run_in.Goals as goal

pub loop-init : goal.loop-init
loop-init g c = (tt, tt, c.requires.own, looks_first c.args.who c.args.call.now c.args.pass c.requires.ready, refl)

pub attempt_once-requires-clause-ready : goal.attempt_once-requires-clause-ready
attempt_once-requires-clause-ready g c = ready_to_look c.args.who c.args.call.now c.args.pass c.loop.pass c.loop.first c.loop.turns c.loop.invariant.3

pub loop-preserved : goal.loop-preserved
loop-preserved g c =
    let waits = subst (λ (a : Attempt g.row.G.Denot g.row.G-M.Denot g.row.G-E.Denot g.row.G-Z.Denot). HasTried c.args.who c.args.call.now c.loop.first c.saturating_add-turns.result c.loop.pass c.in-Ok.after c.in-Ok.place a) c.in-Waits.is c.in-Ok.ensures.ok in (
      tt,
      tt,
      ap (λ (p : DomainPass). p.cell) c.rest-pass.ensures ∙ waits.goes.went.same.cell ∙ c.loop.invariant.2,
      looks_again c.args.who c.args.call.now c.args.pass c.loop.pass c.in-Ok.after c.rest-pass.result c.loop.first c.kept_first-first.result c.loop.turns c.saturating_add-turns.result c.in-Waits.boot c.loop.invariant.3
          (one_more c.loop.turns c.saturating_add-turns.result c.saturating_add-turns.ensures) waits c.kept_first-first.ensures c.rest-pass.ensures,
      c.loop.invariant.4,
    )

pub end_call-requires-clause-own : goal.end_call-requires-clause-own
end_call-requires-clause-own g c =
    (subst (λ (a : Attempt g.row.G.Denot g.row.G-M.Denot g.row.G-E.Denot g.row.G-Z.Denot). HasTried c.args.who c.args.call.now c.loop.first c.saturating_add-turns.result c.loop.pass c.in-Ok.after c.in-Ok.place a) c.in-Away.is c.in-Ok.ensures.ok).goes.went.same.cell ∙ c.loop.invariant.2

pub end_call-requires-clause-away : goal.end_call-requires-clause-away
end_call-requires-clause-away g c =
    (subst (λ (a : Attempt g.row.G.Denot g.row.G-M.Denot g.row.G-E.Denot g.row.G-Z.Denot). HasTried c.args.who c.args.call.now c.loop.first c.saturating_add-turns.result c.loop.pass c.in-Ok.after c.in-Ok.place a) c.in-Away.is c.in-Ok.ensures.ok).away

pub end_call-requires-clause-no_operation : goal.end_call-requires-clause-no_operation
end_call-requires-clause-no_operation g c =
    can_end c.args.who c.args.call.now c.args.pass c.loop.pass c.in-Ok.after c.loop.first c.loop.turns c.in-Away.asked _ c.loop.invariant.3
    (subst (λ (a : Attempt g.row.G.Denot g.row.G-M.Denot g.row.G-E.Denot g.row.G-Z.Denot). HasTried c.args.who c.args.call.now c.loop.first c.saturating_add-turns.result c.loop.pass c.in-Ok.after c.in-Ok.place a) c.in-Away.is c.in-Ok.ensures.ok)

pub returns-in-Done : goal.returns-in-Done
returns-in-Done g c =
    done_at_once c.args.who c.args.call.now c.args.pass c.loop.pass c.in-Ok.after c.loop.first c.loop.turns (g.D.Desk.report c.args.desk.now) (g.D.Desk.report c.loop.desk) c.in-Done.reply c.in-Ok.place c.loop.invariant.3 c.loop.invariant.4
    (subst (λ (a : Attempt g.row.G.Denot g.row.G-M.Denot g.row.G-E.Denot g.row.G-Z.Denot). HasTried c.args.who c.args.call.now c.loop.first c.saturating_add-turns.result c.loop.pass c.in-Ok.after c.in-Ok.place a) c.in-Done.is c.in-Ok.ensures.ok)

pub returns-in-Away : goal.returns-in-Away
returns-in-Away g c =
    ended c.args.who c.args.call.now c.args.pass c.loop.pass c.in-Ok.after c.end_call.result.0 c.loop.first c.loop.turns (g.D.Desk.report c.args.desk.now) (g.D.Desk.report c.loop.desk) (g.D.Desk.report c.end_call.new.desk) c.in-Away.asked _ c.end_call.result.1
    c.loop.invariant.3 c.loop.invariant.4 (subst (λ (a : Attempt g.row.G.Denot g.row.G-M.Denot g.row.G-E.Denot g.row.G-Z.Denot). HasTried c.args.who c.args.call.now c.loop.first c.saturating_add-turns.result c.loop.pass c.in-Ok.after c.in-Ok.place a) c.in-Away.is c.in-Ok.ensures.ok) c.end_call.ensures

pub returns-in-GaveUp : goal.returns-in-GaveUp
returns-in-GaveUp g c =
    gave_up c.in-GaveUp.held c.args.who c.args.call.now c.args.pass c.loop.pass c.in-Ok.after c.loop.first c.loop.turns c.saturating_add-turns.result (g.D.Desk.report c.args.desk.now) (g.D.Desk.report c.loop.desk) c.excluded-reply.result c.in-Ok.place
    c.loop.invariant.3 (one_more c.loop.turns c.saturating_add-turns.result c.saturating_add-turns.ensures) c.loop.invariant.4
    (subst (λ (a : Attempt g.row.G.Denot g.row.G-M.Denot g.row.G-E.Denot g.row.G-Z.Denot). HasTried c.args.who c.args.call.now c.loop.first c.saturating_add-turns.result c.loop.pass c.in-Ok.after c.in-Ok.place a) c.in-GaveUp.is c.in-Ok.ensures.ok) c.excluded-reply.ensures

pub returns-in-WaitersFull : goal.returns-in-WaitersFull
returns-in-WaitersFull g c =
    waiters_full c.new.result c.args.who c.args.call.now c.args.pass c.loop.pass c.in-Ok.after c.loop.first c.loop.turns (g.D.Desk.report c.args.desk.now) (g.D.Desk.report c.loop.desk) c.excluded-reply-in-WaitersFull.result c.in-Ok.place c.loop.invariant.3
    c.loop.invariant.4 (subst (λ (a : Attempt g.row.G.Denot g.row.G-M.Denot g.row.G-E.Denot g.row.G-Z.Denot). HasTried c.args.who c.args.call.now c.loop.first c.saturating_add-turns.result c.loop.pass c.in-Ok.after c.in-Ok.place a) c.in-WaitersFull.is c.in-Ok.ensures.ok) c.excluded-reply-in-WaitersFull.ensures

pub returns-in-NoMemory : goal.returns-in-NoMemory
returns-in-NoMemory g c =
    left_undone c.args.who c.args.call.now c.args.pass c.loop.pass c.in-Ok.after c.loop.first c.loop.turns (g.D.Desk.report c.args.desk.now) (g.D.Desk.report c.loop.desk) c.loop.invariant.3 c.loop.invariant.4
    (subst (λ (a : Attempt g.row.G.Denot g.row.G-M.Denot g.row.G-E.Denot g.row.G-Z.Denot). HasTried c.args.who c.args.call.now c.loop.first c.saturating_add-turns.result c.loop.pass c.in-Ok.after c.in-Ok.place a) c.in-NoMemory.is c.in-Ok.ensures.ok)

pub returns-in-Err : goal.returns-in-Err
returns-in-Err g c =
    spent_waiting c.args.who c.args.call.now c.args.pass c.loop.pass c.in-Err.after c.loop.first c.loop.turns (g.D.Desk.report c.args.desk.now) (g.D.Desk.report c.loop.desk) c.loop.invariant.3 c.loop.invariant.4 c.in-Err.ensures.spent

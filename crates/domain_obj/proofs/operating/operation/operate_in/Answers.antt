use Rattle.std.proofs.Common.{refl, sym, subst, ◌∙◌, ap}
use Rattle.domain_obj.specs.InTurn.{DomainPass}
use Rattle.domain_obj.specs.Entered.{HasEntered}
use Rattle.domain_obj.specs.declared.operating.entering.Entry.{Entry}
use Rattle.domain_obj.specs.Operated.{HasOperated}
use Rattle.domain_obj.specs.declared.operating.operation.Operated.{Operated}
use Rattle.domain_spec.specs.declared.core_step.First.TheVariants as first
use Rattle.domain_obj.proofs.Calling.{gave_up, left_undone, looks_first, one_more, spent_waiting, waiters_full}
use Rattle.domain_obj.proofs.Operations.{operated_so, ready_to_enter, refused_done, waits_again}
use Rattle.domain_obj.proofs.operating.operation.operate_in.Goals as goal

pub loop-init : goal.loop-init
loop-init g c = (tt, tt, c.requires.own, looks_first c.args.who c.args.call.now c.args.pass c.requires.ready, refl)

pub enter_once-requires-clause-ready : goal.enter_once-requires-clause-ready
enter_once-requires-clause-ready g c = ready_to_enter c.args.who c.args.call.now c.args.pass c.loop.pass c.loop.turns c.loop.invariant.3

pub loop-preserved : goal.loop-preserved
loop-preserved g c =
    let waits = subst (λ (x : Entry). HasEntered c.args.who c.args.call.now c.saturating_add-turns.result c.loop.pass c.in-Ok.after c.in-Ok.place x) c.in-Waits.is c.in-Ok.ensures.ok in (
      tt,
      tt,
      ap (λ (p : DomainPass). p.cell) c.rest-pass.ensures ∙ waits.goes.went.same.cell ∙ c.loop.invariant.2,
      waits_again c.args.who c.args.call.now c.args.pass c.loop.pass c.in-Ok.after c.rest-pass.result c.loop.turns c.saturating_add-turns.result c.loop.invariant.3 (one_more c.loop.turns c.saturating_add-turns.result c.saturating_add-turns.ensures) waits
          c.rest-pass.ensures,
      c.loop.invariant.4,
    )

pub returns-in-Begun : goal.returns-in-Begun
returns-in-Begun g c =
    subst (λ (r : Operated). HasOperated c.args.who c.args.call.now c.args.pass c.run_phases-left.result.0 (g.D.Desk.report c.args.desk.now) (g.D.Desk.report c.run_phases-left.new.desk) r) (sym c.operated_as.ensures)
    (operated_so c.args.who c.args.call.now c.args.pass c.loop.pass c.in-Ok.after c.run_phases-left.result.0 c.loop.turns (g.D.Desk.report c.args.desk.now) (g.D.Desk.report c.loop.desk) (g.D.Desk.report c.run_phases-left.new.desk) c.run_phases-left.result.1
    c.loop.invariant.3 c.loop.invariant.4 (subst (λ (x : Entry). HasEntered c.args.who c.args.call.now c.saturating_add-turns.result c.loop.pass c.in-Ok.after c.in-Ok.place x) c.in-Begun.is c.in-Ok.ensures.ok) c.run_phases-left.ensures)

pub returns-in-Done : goal.returns-in-Done
returns-in-Done g c =
    refused_done c.args.who c.args.call.now c.args.pass c.loop.pass c.in-Ok.after c.loop.turns (g.D.Desk.report c.args.desk.now) (g.D.Desk.report c.loop.desk) c.in-Done.reply c.in-Ok.place c.loop.invariant.3 c.loop.invariant.4
    (subst (λ (x : Entry). HasEntered c.args.who c.args.call.now c.saturating_add-turns.result c.loop.pass c.in-Ok.after c.in-Ok.place x) c.in-Done.is c.in-Ok.ensures.ok)

pub returns-in-GaveUp : goal.returns-in-GaveUp
returns-in-GaveUp g c =
    gave_up c.in-GaveUp.held c.args.who c.args.call.now c.args.pass c.loop.pass c.in-Ok.after first.Now c.loop.turns c.saturating_add-turns.result (g.D.Desk.report c.args.desk.now) (g.D.Desk.report c.loop.desk) c.excluded-reply.result c.in-Ok.place
    c.loop.invariant.3 (one_more c.loop.turns c.saturating_add-turns.result c.saturating_add-turns.ensures) c.loop.invariant.4
    (subst (λ (x : Entry). HasEntered c.args.who c.args.call.now c.saturating_add-turns.result c.loop.pass c.in-Ok.after c.in-Ok.place x) c.in-GaveUp.is c.in-Ok.ensures.ok) c.excluded-reply.ensures

pub returns-in-WaitersFull : goal.returns-in-WaitersFull
returns-in-WaitersFull g c =
    waiters_full c.new.result c.args.who c.args.call.now c.args.pass c.loop.pass c.in-Ok.after first.Now c.loop.turns (g.D.Desk.report c.args.desk.now) (g.D.Desk.report c.loop.desk) c.excluded-reply-in-WaitersFull.result c.in-Ok.place c.loop.invariant.3
    c.loop.invariant.4 (subst (λ (x : Entry). HasEntered c.args.who c.args.call.now c.saturating_add-turns.result c.loop.pass c.in-Ok.after c.in-Ok.place x) c.in-WaitersFull.is c.in-Ok.ensures.ok) c.excluded-reply-in-WaitersFull.ensures

pub returns-in-NoMemory : goal.returns-in-NoMemory
returns-in-NoMemory g c =
    left_undone c.args.who c.args.call.now c.args.pass c.loop.pass c.in-Ok.after first.Now c.loop.turns (g.D.Desk.report c.args.desk.now) (g.D.Desk.report c.loop.desk) c.loop.invariant.3 c.loop.invariant.4
    (subst (λ (x : Entry). HasEntered c.args.who c.args.call.now c.saturating_add-turns.result c.loop.pass c.in-Ok.after c.in-Ok.place x) c.in-NoMemory.is c.in-Ok.ensures.ok)

pub returns-in-Err : goal.returns-in-Err
returns-in-Err g c =
    spent_waiting c.args.who c.args.call.now c.args.pass c.loop.pass c.in-Err.after first.Now c.loop.turns (g.D.Desk.report c.args.desk.now) (g.D.Desk.report c.loop.desk) c.loop.invariant.3 c.loop.invariant.4 c.in-Err.ensures.spent

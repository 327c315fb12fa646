use Rattle.std.proofs.Common.{subst, ◌∙◌}
use Rattle.domain_obj.specs.declared.operating.phases.OnePhase.{OnePhase}
use Rattle.domain_obj.specs.declared.operating.phases.OnePhase.TheVariants as one
use Rattle.domain_core.specs.declared.next.Next.{Next}
use Rattle.domain_obj.proofs.GoingOn.{RunsPhase, ended_so, goes_on_again, goes_on_first, lost_amid, lost_before_end, rests}
use Rattle.domain_obj.proofs.operating.phases.run_phases.Goals as goal

pub loop-init : goal.loop-init
loop-init g c = (tt, tt, c.requires.1.1.1.1.1.1.0, goes_on_first c.args.who g.operation c.args.pass (g.D.Desk.report c.args.desk.now) c.requires.1.1.1.1.1.1.1)

pub loop-preserved : goal.loop-preserved
loop-preserved g c =
    let phased = subst (λ (r : OnePhase). RunsPhase c.args.who g.operation c.loop.pass c.run_phase-after.result.0 (g.D.Desk.report c.loop.desk) (g.D.Desk.report c.run_phase-after.new.desk) r) c.in-Phased.is c.run_phase-after.ensures in
    let on = subst (λ (x : Next). RunsPhase c.args.who g.operation c.loop.pass c.run_phase-after.result.0 (g.D.Desk.report c.loop.desk) (g.D.Desk.report c.run_phase-after.new.desk) (one.Phased x c.in-Phased.place)) c.in-On.is phased in (
      tt,
      tt,
      on.2.goes.went.same.cell ∙ c.loop.invariant.2,
      goes_on_again c.args.who g.operation c.args.pass c.loop.pass c.run_phase-after.result.0 (g.D.Desk.report c.args.desk.now) (g.D.Desk.report c.loop.desk) (g.D.Desk.report c.run_phase-after.new.desk) c.in-Phased.place c.loop.invariant.3 on,
    )

pub returns-in-Spent : goal.returns-in-Spent
returns-in-Spent g c =
    lost_amid c.args.who g.operation c.args.pass c.loop.pass c.run_phase-after.result.0 (g.D.Desk.report c.args.desk.now) (g.D.Desk.report c.loop.desk) (g.D.Desk.report c.run_phase-after.new.desk) c.loop.invariant.3
    (subst (λ (r : OnePhase). RunsPhase c.args.who g.operation c.loop.pass c.run_phase-after.result.0 (g.D.Desk.report c.loop.desk) (g.D.Desk.report c.run_phase-after.new.desk) r) c.in-Spent.is c.run_phase-after.ensures)

pub returns-in-Rest : goal.returns-in-Rest
returns-in-Rest g c =
    let phased = subst (λ (r : OnePhase). RunsPhase c.args.who g.operation c.loop.pass c.run_phase-after.result.0 (g.D.Desk.report c.loop.desk) (g.D.Desk.report c.run_phase-after.new.desk) r) c.in-Phased.is c.run_phase-after.ensures in
    rests c.args.who g.operation c.args.pass c.loop.pass c.run_phase-after.result.0 (g.D.Desk.report c.args.desk.now) (g.D.Desk.report c.loop.desk) (g.D.Desk.report c.run_phase-after.new.desk) c.in-Rest.reply c.in-Phased.place c.loop.invariant.3
    (subst (λ (x : Next). RunsPhase c.args.who g.operation c.loop.pass c.run_phase-after.result.0 (g.D.Desk.report c.loop.desk) (g.D.Desk.report c.run_phase-after.new.desk) (one.Phased x c.in-Phased.place)) c.in-Rest.is phased)

pub returns-in-Ok : goal.returns-in-Ok
returns-in-Ok g c =
    let phased = subst (λ (r : OnePhase). RunsPhase c.args.who g.operation c.loop.pass c.run_phase-after.result.0 (g.D.Desk.report c.loop.desk) (g.D.Desk.report c.run_phase-after.new.desk) r) c.in-Phased.is c.run_phase-after.ensures in
    let over = subst (λ (x : Next). RunsPhase c.args.who g.operation c.loop.pass c.run_phase-after.result.0 (g.D.Desk.report c.loop.desk) (g.D.Desk.report c.run_phase-after.new.desk) (one.Phased x c.in-Phased.place)) c.in-Over.is phased in
    ended_so c.args.who g.operation c.args.pass c.loop.pass c.run_phase-after.result.0 c.in-Ok.ended (g.D.Desk.report c.args.desk.now) (g.D.Desk.report c.loop.desk) (g.D.Desk.report c.run_phase-after.new.desk) c.in-Ok.reply c.in-Phased.place c.in-Ok.place c.loop.invariant.3
    over c.in-Ok.ensures.ok

pub returns-in-Err : goal.returns-in-Err
returns-in-Err g c =
    let phased = subst (λ (r : OnePhase). RunsPhase c.args.who g.operation c.loop.pass c.run_phase-after.result.0 (g.D.Desk.report c.loop.desk) (g.D.Desk.report c.run_phase-after.new.desk) r) c.in-Phased.is c.run_phase-after.ensures in
    let over = subst (λ (x : Next). RunsPhase c.args.who g.operation c.loop.pass c.run_phase-after.result.0 (g.D.Desk.report c.loop.desk) (g.D.Desk.report c.run_phase-after.new.desk) (one.Phased x c.in-Phased.place)) c.in-Over.is phased in
    lost_before_end c.args.who g.operation c.args.pass c.loop.pass c.run_phase-after.result.0 c.in-Err.spent (g.D.Desk.report c.args.desk.now) (g.D.Desk.report c.loop.desk) (g.D.Desk.report c.run_phase-after.new.desk) c.in-Phased.place c.loop.invariant.3 over c.in-Err.ensures.spent

use Rattle.std.proofs.Common.{sym, ◌∙◌}
use Rattle.lane_workers.proofs.Steps.{none_of, so_far_more, so_far_none, some_of, worked_stop}
use Rattle.lane_workers.proofs.working.work.Goals as goal

pub loop-init : goal.loop-init
loop-init g c = record { so_far = so_far_none (g.D.Answers.has_answered c.args.service.now) c.args.worker; may = c.requires }

pub returns-then-is_some : goal.returns-then-is_some
returns-then-is_some g c =
    let now = c.loop.worker in
    worked_stop (g.D.Answers.has_answered c.args.service.now) (g.D.Answers.is_row c.args.service.now) c.args.worker now (record now { lane = c.next-in-loop.new.self }) c.answer-after.result.0 c.in-Some-next.piece c.answer-after.result.1
    c.loop.invariant.so_far (λ i. record now { lane = c.in-Some-next.ensures.some i }) c.answer-after.ensures.tried c.answer-after.ensures.may.row (some_of c.answer-after.result.1 (sym c.is_some.ensures ∙ c.if-is_some.true))

pub loop-preserved : goal.loop-preserved
loop-preserved g c =
    let now = c.loop.worker in
    record {
      so_far = so_far_more (g.D.Answers.has_answered c.args.service.now) c.args.worker now (record now { lane = c.next-in-loop.new.self }) c.answer-after.result.0 c.in-Some-next.piece c.answer-after.result.1
          c.loop.invariant.so_far (λ i. record now { lane = c.in-Some-next.ensures.some i }) c.answer-after.ensures.tried (none_of c.answer-after.result.1 (sym c.is_some.ensures ∙ c.if-is_some.false));
      may = c.answer-after.ensures.may;
    }

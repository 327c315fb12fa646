use Rattle.std.proofs.Common.{Option, refl, subst}
use Rattle.sink_turns.specs.declared.message.Message.{Message}
use Rattle.lane_workers.proofs.Steps.{tried_none, tried_said}
use Rattle.lane_workers.proofs.working.answer.Goals as goal

pub returns-in-Some-clause-tried : goal.returns-in-Some-clause-tried
returns-in-Some-clause-tried g c =
    let ready = c.flush_before-worker.result in
    let ran = subst (λ (x : Option Message). g.D.Answers.has_answered c.args.service.now ready.row c.args.piece x c.answer-row.result.0) c.in-Some.is c.answer-row.ensures.answered in
    tried_said (g.D.Answers.has_answered c.args.service.now) c.args.piece c.in-Some.message c.say.result.1 c.args.worker ready (record ready { row = c.answer-row.result.0 }) c.say.result.0 c.flush_before-worker.ensures refl refl ran c.say.ensures

pub returns-in-None-clause-tried : goal.returns-in-None-clause-tried
returns-in-None-clause-tried g c =
    let ready = c.flush_before-worker.result in
    let ran = subst (λ (x : Option Message). g.D.Answers.has_answered c.args.service.now ready.row c.args.piece x c.answer-row.result.0) c.in-None.is c.answer-row.ensures.answered in
    tried_none (g.D.Answers.has_answered c.args.service.now) c.args.piece c.args.worker ready (record ready { row = c.answer-row.result.0 }) c.flush.result c.flush_before-worker.ensures refl refl ran c.flush.ensures

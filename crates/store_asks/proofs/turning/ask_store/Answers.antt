use Rattle.store_asks.proofs.Leaving.{ask_leaves, has_asked, left_by_ask}
use Rattle.store_asks.proofs.turning.ask_store.Goals as goal

pub returns-clause-asked : goal.returns-clause-asked
returns-clause-asked g c = has_asked g.F.Files.told g.F.Files.faults c.args.ask.now c.answer_in-answer.result c.args.pass c.in-Ok.turn c.answer_in-answer.new.turn c.leave.result
    c.in-Ok.ensures.turn c.answer_in-answer.ensures.same c.answer_in-answer.ensures.answer c.leave.ensures

pub leave-requires-clause-goes_on : goal.leave-requires-clause-goes_on
leave-requires-clause-goes_on g c = (ask_leaves g.F.Files.told g.F.Files.faults c.args.ask.now c.answer_in-answer.result c.args.pass c.in-Ok.turn c.answer_in-answer.new.turn c.in-Ok.ensures.turn c.answer_in-answer.ensures.same
    (left_by_ask g.F.Files.told g.F.Files.faults _ c.args.ask.now _ _ c.answer_in-answer.result c.answer_in-answer.ensures.answer)).goes_on

pub leave-requires-clause-marks : goal.leave-requires-clause-marks
leave-requires-clause-marks g c = (ask_leaves g.F.Files.told g.F.Files.faults c.args.ask.now c.answer_in-answer.result c.args.pass c.in-Ok.turn c.answer_in-answer.new.turn c.in-Ok.ensures.turn c.answer_in-answer.ensures.same
    (left_by_ask g.F.Files.told g.F.Files.faults _ c.args.ask.now _ _ c.answer_in-answer.result c.answer_in-answer.ensures.answer)).marks

pub leave-requires-clause-others : goal.leave-requires-clause-others
leave-requires-clause-others g c = (ask_leaves g.F.Files.told g.F.Files.faults c.args.ask.now c.answer_in-answer.result c.args.pass c.in-Ok.turn c.answer_in-answer.new.turn c.in-Ok.ensures.turn c.answer_in-answer.ensures.same
    (left_by_ask g.F.Files.told g.F.Files.faults _ c.args.ask.now _ _ c.answer_in-answer.result c.answer_in-answer.ensures.answer)).others

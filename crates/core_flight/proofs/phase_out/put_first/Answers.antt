use Rattle.std.proofs.Common.{◌∙◌}
use Rattle.core_flight.proofs.PhaseAnswers.{bare_first, copy_first, no_room}
use Rattle.core_flight.proofs.phase_out.put_first.Goals as goal

pub returns-in-None : goal.returns-in-None
returns-in-None c =
    let a = c.args in
    c.answer.ensures ∙ bare_first a.course.now a.answer c.requires.none (no_room a.course.now.plan a.room c.in-None.is c.requires.copy) c.requires.second

pub returns-in-Some : goal.returns-in-Some
returns-in-Some c =
    let a = c.args in
    copy_first a.course.now a.answer c.answer-in-Some.new.self c.put_copy.new.self c.held-bytes.result c.requires.none c.requires.second c.answer-in-Some.ensures c.held-bytes.ensures c.put_copy.ensures

use Rattle.std.proofs.Common.{◌==◌, List, [], Option, length, sym, ap, ◌∙◌, subst}
use Rattle.domain_spec.specs.Types.{Answer}
use Rattle.core_flight.specs.Away.{HasCopyRoom}
use Rattle.core_flight.proofs.PhaseAnswers.{is_none, later}
use Rattle.core_flight.proofs.phase_out.put_answer.Goals as goal

pub put_first-requires-clause-none : goal.put_first-requires-clause-none
put_first-requires-clause-none c =
    let a = c.args in
    is_none a.course.now.answers (sym (c.is_empty.ensures ∙ ap (λ (xs : List Answer). length xs == 0) c.answers.ensures) ∙ c.if-is_empty.true)

pub put_first-requires-clause-copy : goal.put_first-requires-clause-copy
put_first-requires-clause-copy c =
    let a = c.args in
    let none = is_none a.course.now.answers (sym (c.is_empty.ensures ∙ ap (λ (xs : List Answer). length xs == 0) c.answers.ensures) ∙ c.if-is_empty.true) in
    subst (λ (r : Option (Unit {0})). HasCopyRoom [] a.course.now.plan r) (sym c.take.ensures.value)
    (subst (λ (xs : List Answer). HasCopyRoom xs a.course.now.plan a.copy.now) none c.requires.copy)

pub put_first-requires-clause-second : goal.put_first-requires-clause-second
put_first-requires-clause-second c =
    let a = c.args in
    c.requires.second (is_none a.course.now.answers (sym (c.is_empty.ensures ∙ ap (λ (xs : List Answer). length xs == 0) c.answers.ensures) ∙ c.if-is_empty.true))

pub returns-else-is_empty : goal.returns-else-is_empty
returns-else-is_empty c =
    let a = c.args in
    c.answer.ensures ∙ later a.course.now a.answer (sym (c.is_empty.ensures ∙ ap (λ (xs : List Answer). length xs == 0) c.answers.ensures) ∙ c.if-is_empty.false)

use Rattle.std.proofs.Common.{◌∙◌, subst}
use Rattle.domain_spec.specs.Fold.{at_base}
use Rattle.domain_spec.specs.Laws.{IsCounted}
use Rattle.domain_spec.specs.Legal.{IsLegal}
use Rattle.domain_obj.specs.InTurn.{DomainTurn}
use Rattle.domain_core.specs.Celled.{cell_in}
use Rattle.domain_obj.proofs.Turned.{chapter_below, may_enter, tried_leaves, tried_once}
use Rattle.domain_obj.proofs.attempts.attempt_once.Goals as goal

pub attempt_in-attempt-requires-clause-may : goal.attempt_in-attempt-requires-clause-may
attempt_in-attempt-requires-clause-may g c = may_enter c.args.who c.args.call.now c.args.first c.args.pass c.in-Ok.turn c.in-Ok.ensures.turn c.requires.ready

pub attempt_in-attempt-requires-clause-chapter : goal.attempt_in-attempt-requires-clause-chapter
attempt_in-attempt-requires-clause-chapter g c = chapter_below c.args.pass c.in-Ok.turn c.in-Ok.ensures.turn

pub leave-requires-clause-goes_on : goal.leave-requires-clause-goes_on
leave-requires-clause-goes_on g c =
    (tried_leaves c.args.who c.args.call.now c.args.first c.args.turns c.args.pass c.in-Ok.turn c.attempt_in-attempt.new.turn c.told_legal.new.turn c.attempt_in-attempt.result c.in-Ok.ensures.turn c.attempt_in-attempt.ensures.tries
    c.attempt_in-attempt.ensures.same (c.told_legal.ensures.same ∙ c.last_in-place.ensures.same)).1.goes_on

pub leave-requires-clause-marks : goal.leave-requires-clause-marks
leave-requires-clause-marks g c =
    (tried_leaves c.args.who c.args.call.now c.args.first c.args.turns c.args.pass c.in-Ok.turn c.attempt_in-attempt.new.turn c.told_legal.new.turn c.attempt_in-attempt.result c.in-Ok.ensures.turn c.attempt_in-attempt.ensures.tries
    c.attempt_in-attempt.ensures.same (c.told_legal.ensures.same ∙ c.last_in-place.ensures.same)).1.marks

pub leave-requires-clause-others : goal.leave-requires-clause-others
leave-requires-clause-others g c =
    (tried_leaves c.args.who c.args.call.now c.args.first c.args.turns c.args.pass c.in-Ok.turn c.attempt_in-attempt.new.turn c.told_legal.new.turn c.attempt_in-attempt.result c.in-Ok.ensures.turn c.attempt_in-attempt.ensures.tries
    c.attempt_in-attempt.ensures.same (c.told_legal.ensures.same ∙ c.last_in-place.ensures.same)).1.others

pub returns-clause-ok : goal.returns-clause-ok
returns-clause-ok g c =
    tried_once c.args.who c.args.call.now c.args.first c.args.turns c.args.pass c.leave.result c.in-Ok.turn c.attempt_in-attempt.new.turn c.told_legal.new.turn c.last_in-place.result c.attempt_in-attempt.result c.in-Ok.ensures.turn
    c.requires.ready c.attempt_in-attempt.ensures.tries c.attempt_in-attempt.ensures.same (c.told_legal.ensures.same ∙ c.last_in-place.ensures.same) c.last_in-place.ensures.place
    (subst (λ (t : DomainTurn). IsLegal (at_base (cell_in t.value).base) (cell_in t.value).marks) c.last_in-place.ensures.same c.told_legal.ensures.legal)
    (subst (λ (t : DomainTurn). IsCounted (at_base (cell_in t.value).base)) c.last_in-place.ensures.same c.told_legal.ensures.counted) c.leave.ensures

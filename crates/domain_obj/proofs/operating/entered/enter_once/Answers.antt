use Rattle.std.proofs.Common.{◌∙◌, subst}
use Rattle.domain_spec.specs.Fold.{at_base}
use Rattle.domain_spec.specs.Laws.{IsCounted}
use Rattle.domain_spec.specs.Legal.{IsLegal}
use Rattle.domain_obj.specs.InTurn.{DomainTurn}
use Rattle.domain_core.specs.Celled.{cell_in}
use Rattle.domain_obj.proofs.Entered.{entered_leaves, entered_once}
use Rattle.domain_obj.proofs.Turned.{chapter_below, free_found}
use Rattle.domain_obj.proofs.operating.entered.enter_once.Goals as goal

pub enter_in-entry-requires-clause-may : goal.enter_in-entry-requires-clause-may
enter_in-entry-requires-clause-may g c = free_found c.args.who c.args.pass c.in-Ok.turn c.in-Ok.ensures.turn c.requires.ready

pub enter_in-entry-requires-clause-chapter : goal.enter_in-entry-requires-clause-chapter
enter_in-entry-requires-clause-chapter g c = chapter_below c.args.pass c.in-Ok.turn c.in-Ok.ensures.turn

pub leave-requires-clause-goes_on : goal.leave-requires-clause-goes_on
leave-requires-clause-goes_on g c =
    (entered_leaves c.args.who c.args.call.now c.args.turns c.args.pass c.in-Ok.turn c.enter_in-entry.new.turn c.told_legal.new.turn c.enter_in-entry.result c.in-Ok.ensures.turn c.enter_in-entry.ensures.enters c.enter_in-entry.ensures.same
    (c.told_legal.ensures.same ∙ c.last_in-place.ensures.same)).1.goes_on

pub leave-requires-clause-marks : goal.leave-requires-clause-marks
leave-requires-clause-marks g c =
    (entered_leaves c.args.who c.args.call.now c.args.turns c.args.pass c.in-Ok.turn c.enter_in-entry.new.turn c.told_legal.new.turn c.enter_in-entry.result c.in-Ok.ensures.turn c.enter_in-entry.ensures.enters c.enter_in-entry.ensures.same
    (c.told_legal.ensures.same ∙ c.last_in-place.ensures.same)).1.marks

pub leave-requires-clause-others : goal.leave-requires-clause-others
leave-requires-clause-others g c =
    (entered_leaves c.args.who c.args.call.now c.args.turns c.args.pass c.in-Ok.turn c.enter_in-entry.new.turn c.told_legal.new.turn c.enter_in-entry.result c.in-Ok.ensures.turn c.enter_in-entry.ensures.enters c.enter_in-entry.ensures.same
    (c.told_legal.ensures.same ∙ c.last_in-place.ensures.same)).1.others

pub returns-clause-ok : goal.returns-clause-ok
returns-clause-ok g c =
    entered_once c.args.who c.args.call.now c.args.turns c.args.pass c.leave.result c.in-Ok.turn c.enter_in-entry.new.turn c.told_legal.new.turn c.last_in-place.result c.enter_in-entry.result c.in-Ok.ensures.turn
    c.requires.ready c.enter_in-entry.ensures.enters c.enter_in-entry.ensures.same (c.told_legal.ensures.same ∙ c.last_in-place.ensures.same) c.last_in-place.ensures.place
    (subst (λ (t : DomainTurn). IsLegal (at_base (cell_in t.value).base) (cell_in t.value).marks) c.last_in-place.ensures.same c.told_legal.ensures.legal)
    (subst (λ (t : DomainTurn). IsCounted (at_base (cell_in t.value).base)) c.last_in-place.ensures.same c.told_legal.ensures.counted) c.leave.ensures

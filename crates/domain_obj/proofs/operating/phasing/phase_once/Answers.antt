use Rattle.std.proofs.Common.{subst, ◌∙◌}
use Rattle.domain_spec.specs.Fold.{at_base}
use Rattle.domain_spec.specs.Laws.{IsCounted}
use Rattle.domain_spec.specs.Legal.{IsLegal}
use Rattle.domain_obj.specs.InTurn.{DomainTurn}
use Rattle.domain_core.specs.Celled.{cell_in}
use Rattle.domain_obj.proofs.Stepped.{may_go_on, step_leaves, stepped_once}
use Rattle.domain_obj.proofs.Turned.{chapter_below}
use Rattle.domain_obj.proofs.operating.phasing.phase_once.Goals as goal

pub phase_in-looked-requires-clause-may : goal.phase_in-looked-requires-clause-may
phase_in-looked-requires-clause-may g c = may_go_on c.args.who g.operation c.args.pass c.in-Ok.turn c.in-Ok.ensures.turn c.requires.1.1.1.1.1.1

pub phase_in-looked-requires-clause-chapter : goal.phase_in-looked-requires-clause-chapter
phase_in-looked-requires-clause-chapter g c = chapter_below c.args.pass c.in-Ok.turn c.in-Ok.ensures.turn

pub leave-requires-clause-goes_on : goal.leave-requires-clause-goes_on
leave-requires-clause-goes_on g c =
    (step_leaves c.args.who c.args.pass c.in-Ok.turn c.phase_in-looked.new.turn c.told_legal.new.turn c.phase_in-looked.result c.in-Ok.ensures.turn c.phase_in-looked.ensures.goes c.phase_in-looked.ensures.same
    (c.told_legal.ensures.same ∙ c.last_in-place.ensures.same)).1.goes_on

pub leave-requires-clause-marks : goal.leave-requires-clause-marks
leave-requires-clause-marks g c =
    (step_leaves c.args.who c.args.pass c.in-Ok.turn c.phase_in-looked.new.turn c.told_legal.new.turn c.phase_in-looked.result c.in-Ok.ensures.turn c.phase_in-looked.ensures.goes c.phase_in-looked.ensures.same
    (c.told_legal.ensures.same ∙ c.last_in-place.ensures.same)).1.marks

pub leave-requires-clause-others : goal.leave-requires-clause-others
leave-requires-clause-others g c =
    (step_leaves c.args.who c.args.pass c.in-Ok.turn c.phase_in-looked.new.turn c.told_legal.new.turn c.phase_in-looked.result c.in-Ok.ensures.turn c.phase_in-looked.ensures.goes c.phase_in-looked.ensures.same
    (c.told_legal.ensures.same ∙ c.last_in-place.ensures.same)).1.others

pub returns-clause-ok : goal.returns-clause-ok
returns-clause-ok g c =
    stepped_once c.args.who g.operation c.args.pass c.leave.result c.in-Ok.turn c.phase_in-looked.new.turn c.told_legal.new.turn c.last_in-place.result c.phase_in-looked.result c.in-Ok.ensures.turn c.requires.1.1.1.1.1.1
    c.phase_in-looked.ensures.goes c.phase_in-looked.ensures.same (c.told_legal.ensures.same ∙ c.last_in-place.ensures.same) c.last_in-place.ensures.place
    (subst (λ (t : DomainTurn). IsLegal (at_base (cell_in t.value).base) (cell_in t.value).marks) c.last_in-place.ensures.same c.told_legal.ensures.legal)
    (subst (λ (t : DomainTurn). IsCounted (at_base (cell_in t.value).base)) c.last_in-place.ensures.same c.told_legal.ensures.counted) c.leave.ensures

use Rattle.std.proofs.Common.{option_map, ◌∙◌, subst}
use Rattle.domain_spec.specs.Fold.{at_base}
use Rattle.domain_spec.specs.Legal.{IsLegal}
use Rattle.domain_core.specs.Celled.{cell_in}
use Rattle.domain_obj.specs.InTurn.{DomainTurn}
use Rattle.monitor_link.specs.Views.{link_view}
use Rattle.domain_obj.proofs.Answering.{answered_once, asks_there, back_may_leave}
use Rattle.domain_obj.proofs.calls.answer_once.Goals as goal

pub back_in-left-requires-clause-made : goal.back_in-left-requires-clause-made
back_in-left-requires-clause-made g c =
    asks_there c.args.pass c.in-Ok.turn c.told_legal.new.turn c.args.asked.now (option_map (link_view g.G.M.Monitor g.G.E.Ears g.G.Z.Killer) c.args.made) c.requires.may.last c.in-Ok.ensures.turn c.told_legal.ensures.same c.requires.made

pub leave-requires-clause-goes_on : goal.leave-requires-clause-goes_on
leave-requires-clause-goes_on g c =
    (back_may_leave c.args.pass c.in-Ok.turn c.told_legal.new.turn c.back_in-left.new.turn c.told_legal-2.new.turn c.args.asked.now c.args.answer c.back_in-left.result c.requires.may.last c.in-Ok.ensures.turn c.told_legal.ensures.same c.told_legal.ensures.steady
    c.back_in-left.ensures.back c.back_in-left.ensures.same (c.told_legal-2.ensures.same ∙ c.last_in-place.ensures.same)).1.goes_on

pub leave-requires-clause-marks : goal.leave-requires-clause-marks
leave-requires-clause-marks g c =
    (back_may_leave c.args.pass c.in-Ok.turn c.told_legal.new.turn c.back_in-left.new.turn c.told_legal-2.new.turn c.args.asked.now c.args.answer c.back_in-left.result c.requires.may.last c.in-Ok.ensures.turn c.told_legal.ensures.same c.told_legal.ensures.steady
    c.back_in-left.ensures.back c.back_in-left.ensures.same (c.told_legal-2.ensures.same ∙ c.last_in-place.ensures.same)).1.marks

pub leave-requires-clause-others : goal.leave-requires-clause-others
leave-requires-clause-others g c =
    (back_may_leave c.args.pass c.in-Ok.turn c.told_legal.new.turn c.back_in-left.new.turn c.told_legal-2.new.turn c.args.asked.now c.args.answer c.back_in-left.result c.requires.may.last c.in-Ok.ensures.turn c.told_legal.ensures.same c.told_legal.ensures.steady
    c.back_in-left.ensures.back c.back_in-left.ensures.same (c.told_legal-2.ensures.same ∙ c.last_in-place.ensures.same)).1.others

pub returns-clause-ok : goal.returns-clause-ok
returns-clause-ok g c =
    answered_once c.args.pass c.leave.result c.in-Ok.turn c.told_legal.new.turn c.back_in-left.new.turn c.told_legal-2.new.turn c.args.asked.now c.args.answer c.back_in-left.result c.last_in-place.result
    c.last_in-place.ensures.place c.requires.may.last c.in-Ok.ensures.turn c.told_legal.ensures.same c.told_legal.ensures.steady
    c.back_in-left.ensures.back c.back_in-left.ensures.same (c.told_legal-2.ensures.same ∙ c.last_in-place.ensures.same)
    (subst (λ (t : DomainTurn). IsLegal (at_base (cell_in t.value).base) (cell_in t.value).marks) c.last_in-place.ensures.same c.told_legal-2.ensures.legal) c.leave.ensures

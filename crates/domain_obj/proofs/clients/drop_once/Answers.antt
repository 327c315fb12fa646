use Rattle.std.proofs.Common.{◌∙◌, subst}
use Rattle.domain_spec.specs.Fold.{at_base}
use Rattle.domain_spec.specs.Legal.{IsLegal}
use Rattle.domain_core.specs.Celled.{cell_in}
use Rattle.domain_obj.specs.InTurn.{DomainTurn}
use Rattle.domain_obj.proofs.ClientTurns.{can_take, drop_leave, drop_turn, dropped_once}
use Rattle.domain_obj.proofs.SilentTurns.{seen_at}
use Rattle.domain_obj.proofs.clients.drop_once.Goals as goal

pub drop_in-requires : goal.drop_in-requires
drop_in-requires g c =
    record { can = can_take c.args.client c.args.pass c.in-Ok.turn c.told_owed.new.turn c.requires.registered c.in-Ok.ensures.turn c.told_owed.ensures.same }

pub leave-requires-clause-goes_on : goal.leave-requires-clause-goes_on
leave-requires-clause-goes_on g c =
    (drop_leave c.args.client c.args.pass c.in-Ok.turn c.told_owed.new.turn c.drop_in.new.turn c.told_legal.new.turn c.drop_in.result c.in-Ok.ensures.turn c.told_owed.ensures.same c.drop_in.ensures.settles c.drop_in.ensures.same (c.told_legal.ensures.same ∙ c.seen_in-seen.ensures.same)).goes_on

pub leave-requires-clause-marks : goal.leave-requires-clause-marks
leave-requires-clause-marks g c =
    (drop_leave c.args.client c.args.pass c.in-Ok.turn c.told_owed.new.turn c.drop_in.new.turn c.told_legal.new.turn c.drop_in.result c.in-Ok.ensures.turn c.told_owed.ensures.same c.drop_in.ensures.settles c.drop_in.ensures.same (c.told_legal.ensures.same ∙ c.seen_in-seen.ensures.same)).marks

pub leave-requires-clause-others : goal.leave-requires-clause-others
leave-requires-clause-others g c =
    (drop_leave c.args.client c.args.pass c.in-Ok.turn c.told_owed.new.turn c.drop_in.new.turn c.told_legal.new.turn c.drop_in.result c.in-Ok.ensures.turn c.told_owed.ensures.same c.drop_in.ensures.settles c.drop_in.ensures.same (c.told_legal.ensures.same ∙ c.seen_in-seen.ensures.same)).others

pub returns-clause-ok : goal.returns-clause-ok
returns-clause-ok g c =
    dropped_once c.args.client c.args.pass c.leave.result c.in-Ok.turn c.told_owed.new.turn c.drop_in.new.turn c.told_legal.new.turn c.drop_in.result c.in-Ok.ensures.turn c.told_owed.ensures.same c.told_owed.ensures.owed c.drop_in.ensures.settles c.drop_in.ensures.same (c.told_legal.ensures.same ∙ c.seen_in-seen.ensures.same)
    (subst (λ (t : DomainTurn). IsLegal (at_base (cell_in t.value).base) (cell_in t.value).marks) c.seen_in-seen.ensures.same c.told_legal.ensures.legal) c.leave.ensures

pub returns-clause-seen : goal.returns-clause-seen
returns-clause-seen g c =
    seen_at c.seen_in-seen.result c.leave.result c.drop_in.new.turn.value c.seen_in-seen.ensures.chapter c.seen_in-seen.ensures.marks c.seen_in-seen.ensures.occupied
    (drop_turn c.args.client c.args.pass c.leave.result c.in-Ok.turn c.told_owed.new.turn c.drop_in.new.turn c.told_legal.new.turn c.drop_in.result c.in-Ok.ensures.turn c.told_owed.ensures.same c.drop_in.ensures.settles c.drop_in.ensures.same (c.told_legal.ensures.same ∙ c.seen_in-seen.ensures.same)
    (subst (λ (t : DomainTurn). IsLegal (at_base (cell_in t.value).base) (cell_in t.value).marks) c.seen_in-seen.ensures.same c.told_legal.ensures.legal) c.leave.ensures).saw

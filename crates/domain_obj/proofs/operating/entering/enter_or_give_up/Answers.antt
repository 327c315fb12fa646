use Rattle.domain_obj.proofs.RunsEntering.{may_give_up_then}
use Rattle.domain_obj.proofs.operating.entering.enter_or_give_up.Goals as goal

pub give_up_in-requires-clause-can : goal.give_up_in-requires-clause-can
give_up_in-requires-clause-can g c =
    may_give_up_then c.args.who c.args.call.now c.args.turn.now c.look_for.new.turn c.in-Excluded.held c.in-Excluded.boot c.in-Excluded.looks c.in-Excluded.ensures.looks c.if-looks-ge-ENOUGH.true c.look_for.ensures.same

pub give_up_in-requires-clause-excluded : goal.give_up_in-requires-clause-excluded
give_up_in-requires-clause-excluded g c = c.in-Excluded.ensures.looks.excluded

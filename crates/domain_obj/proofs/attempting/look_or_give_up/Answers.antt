use Rattle.domain_obj.proofs.Known.{known_first}
use Rattle.domain_obj.proofs.Moving.{can_give_up_then}
use Rattle.domain_obj.proofs.attempting.look_or_give_up.Goals as goal

pub look_in-requires-clause-known : goal.look_in-requires-clause-known
look_in-requires-clause-known g c = known_first c.args.first c.args.turn.now.value c.requires.may.known

pub give_up_in-requires-clause-can : goal.give_up_in-requires-clause-can
give_up_in-requires-clause-can g c =
    can_give_up_then {G = g.row.G.Denot} {M = g.row.G-M.Denot} {E = g.row.G-E.Denot} {Z = g.row.G-Z.Denot} c.args.who c.args.call.now c.args.first c.args.turn.now c.look_in.new.turn c.in-Excluded.held c.in-Excluded.boot c.in-Excluded.looks c.in-Excluded.ensures.looks c.if-looks-ge-ENOUGH.true
    c.look_in.ensures.same

pub give_up_in-requires-clause-excluded : goal.give_up_in-requires-clause-excluded
give_up_in-requires-clause-excluded g c = c.in-Excluded.ensures.looks.excluded

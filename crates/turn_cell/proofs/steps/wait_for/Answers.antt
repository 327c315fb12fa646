use Rattle.std.proofs.Common.{◌∙◌}
use Rattle.turn_cell.proofs.Moves.{has_slot}
use Rattle.turn_cell.proofs.steps.wait_for.Goals as goal

pub exchange-requires : goal.exchange-requires
exchange-requires g c =
    let took = c.if-look.ensures.looked in
    (c.look.ensures.seat.0 ∙ c.loop.invariant.2 ∙ c.requires.own.0, has_slot g.T.Kept.meaning _ _ _ took.0 took.1)

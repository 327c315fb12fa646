use Rattle.std.proofs.Common.{arith}
use Rattle.turn_cell.proofs.Moves.{draws_moves}
use Rattle.turn_cell.proofs.steps.draw.Goals as goal

pub fetch_add-requires : goal.fetch_add-requires
fetch_add-requires g c = (c.requires.own.0, omega (arith, c.requires.own.1), draws_moves g.T.Kept.meaning _ _ c.args.seat.now.me c.requires.idle.0 c.requires.idle.1 c.requires.parts)

use Rattle.std.proofs.Common.{arith}
use Rattle.turn_cell.proofs.Moves.{looks_moves}
use Rattle.turn_cell.proofs.steps.look.Goals as goal

pub load-requires : goal.load-requires
load-requires g c = (c.requires.own.0, omega (arith, c.requires.own.1), looks_moves g.T.Kept.meaning _ _ c.args.seat.now.me c.args.ticket c.requires.waits)

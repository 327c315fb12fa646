use Rattle.turn_cell.proofs.Ends.{may_leave}
use Rattle.turn_cell.proofs.cell.TurnCell.leave.Goals as goal

pub pass_on-left-requires-clause-turn : goal.pass_on-left-requires-clause-turn
pass_on-left-requires-clause-turn g c = may_leave g.T.Kept.meaning _ c.turn.inside.seat.me c.turn.inside.home _ c.turn.view_is c.turn.invariant c.requires.goes_on c.requires.marks c.requires.others

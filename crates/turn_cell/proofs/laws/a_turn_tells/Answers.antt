use Rattle.turn_cell.proofs.Turning.{turn_tells}
use Rattle.turn_cell.proofs.laws.a_turn_tells.Goals as goal

pub returns : goal.returns
returns g c = turn_tells g.T.Kept.meaning g.met.T.Kept.no_mark_lowers g.met.T.Kept.new_base_keeps

use Rattle.turn_cell.proofs.Turning.{went_on}
use Rattle.turn_cell.proofs.laws.turns_add_up.Goals as goal

pub returns : goal.returns
returns g c = went_on g.T.Kept.meaning g.met.T.Kept.no_mark_lowers

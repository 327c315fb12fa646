use Rattle.pass_rows.proofs.Gathering.{parts_add_up}
use Rattle.pass_rows.proofs.laws.parts_add_up.Goals as goal

pub returns : goal.returns
returns g c = parts_add_up g.T.Kept.meaning

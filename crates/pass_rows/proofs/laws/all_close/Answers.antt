use Rattle.pass_rows.proofs.Gathering.{all_close}
use Rattle.pass_rows.proofs.laws.all_close.Goals as goal

pub returns : goal.returns
returns g c = all_close g.T.Kept.meaning g.met.T.Kept.no_mark_lowers

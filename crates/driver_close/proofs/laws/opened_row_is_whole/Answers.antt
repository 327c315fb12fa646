use Rattle.driver_close.proofs.Fresh.{one_row_is_whole}
use Rattle.driver_close.proofs.laws.opened_row_is_whole.Goals as goal

pub returns : goal.returns
returns g c = λ files row starts statuses cells. one_row_is_whole g.F.Files.told cells.domains cells.kept row cells.first

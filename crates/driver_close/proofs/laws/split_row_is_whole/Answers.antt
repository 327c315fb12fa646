use Rattle.driver_close.proofs.Parts.{split_whole}
use Rattle.driver_close.proofs.laws.split_row_is_whole.Goals as goal

pub returns : goal.returns
returns g c = λ faults count row rows many has slots whole. split_whole g.F.Files.told faults count row rows many has slots whole

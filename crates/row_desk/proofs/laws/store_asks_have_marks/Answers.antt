use Rattle.row_desk.proofs.LawProofs.{marks_there}
use Rattle.row_desk.proofs.laws.store_asks_have_marks.Goals as goal

pub returns : goal.returns
returns g c = marks_there g.F.Files.told

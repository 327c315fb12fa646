use Rattle.store_reading.proofs.Cutting.{first_of}
use Rattle.store_reading.proofs.lines.first_line.Goals as goal

pub returns-in-Some : goal.returns-in-Some
returns-in-Some c = first_of c.args.front.now c.args.bytes.now c.in-Some.rest.now c.flagged.result c.in-Some.ensures c.flagged.ensures

use Rattle.store_reading.proofs.Cutting.{line_of}
use Rattle.store_reading.proofs.lines.labelled.Goals as goal

pub returns-in-Some : goal.returns-in-Some
returns-in-Some c = line_of c.args.label.now c.args.bytes.now c.in-Some.rest.now c.cut.result c.in-Some.ensures c.cut.ensures

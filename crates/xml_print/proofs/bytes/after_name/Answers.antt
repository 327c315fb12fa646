use Rattle.std.proofs.Common.{arith}
use Rattle.xml_print.proofs.Pieces.{spelled}
use Rattle.xml_print.proofs.bytes.after_name.Goals as goal

pub returns : goal.returns
returns c = omega (arith, spelled c.args.name.now c.utf8.name, c.saturating_sub.ensures)

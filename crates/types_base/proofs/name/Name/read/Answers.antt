use Rattle.std.proofs.Common.{arith}
use Rattle.types_base.proofs.Names.{place_wrong}
use Rattle.types_base.proofs.name.Name.read.Goals as goal

pub returns-in-Err-clause-bad : goal.returns-in-Err-clause-bad
returns-in-Err-clause-bad c = place_wrong c.args.bytes.now c.min.result (grind (arith, c.min.ensures, c.forbidden_place.ensures, c.in-Err.ensures.valid_len, c.valid_up_to.ensures)) (grind (arith, c.min.ensures, c.in-Err.ensures.cases.1.short, c.valid_up_to.ensures))

use Rattle.std.proofs.Common.{arith}
use Rattle.types_base.specs.Refusal.{kept_cut}
use Rattle.types_base.proofs.refusal.Refusal.new.Goals as goal

pub returns-clause-kept : goal.returns-clause-kept
unfolding kept_cut
returns-clause-kept c = grind (arith, c.in_ok-copy_of.ensures, c.range.ensures.value, c.kept_length.ensures.place)

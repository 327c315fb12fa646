use Rattle.std.proofs.Common.{arith}
use Rattle.turn_examples.proofs.Adding.{one_turn_more}
use Rattle.turn_examples.proofs.two.add_many.Goals as goal

pub loop-preserved : goal.loop-preserved
loop-preserved g c = (omega (arith, c.loop.invariant.0), one_turn_more _ _ _ _ _ c.loop.invariant.1 c.in-Ok.ensures.ok)

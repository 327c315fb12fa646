use Rattle.std.proofs.Common.{◌≡◌}
use Rattle.virtd.proofs.serving.say_starts.Given as goal

abbrev pub invariant-loop-request : goal.invariant-loop-request
invariant-loop-request g l = g.W.World.given l.world ≡ g.W.World.given l.fn.world

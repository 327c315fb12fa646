use Rattle.std.proofs.Common.{◌≡◌}
use Rattle.virtd.proofs.serving.say_statuses.Given as goal

abbrev pub invariant-loop-status : goal.invariant-loop-status
invariant-loop-status g l = g.W.World.given l.world ≡ g.W.World.given l.fn.world

use Rattle.std.proofs.Common.{◌≤◌}
use Rattle.turn_examples.specs.Many.{HasAddedMany}
use Rattle.turn_examples.proofs.two.add_many.Given as goal

abbrev pub invariant-loop : goal.invariant-loop
invariant-loop g l = (l.counter ≤ l.times) × HasAddedMany l.amount l.counter l.fn.pass l.pass

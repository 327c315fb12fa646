use Rattle.std.specs.Prelude.{◌≡◌, true}
use Rattle.lanes.proofs.tests.put_one.Given as goal

abbrev pub invariant-loop : goal.invariant-loop
invariant-loop g l = l.lane.puts ≡ true

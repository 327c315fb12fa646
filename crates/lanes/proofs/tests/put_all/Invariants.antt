use Rattle.std.specs.Prelude.{◌≡◌, true}
use Rattle.lanes.proofs.tests.put_all.Given as goal

abbrev pub invariant-loop-number : goal.invariant-loop-number
invariant-loop-number g l = l.lane.puts ≡ true

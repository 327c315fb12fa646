use Rattle.std.proofs.Common.{◌≡◌, true}
use Rattle.lane_workers.proofs.tests.put_all.Given as goal

abbrev pub invariant-loop-amount : goal.invariant-loop-amount
invariant-loop-amount g l = l.puts.puts ≡ true

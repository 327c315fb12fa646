use Rattle.std.proofs.Common.{◌≡◌}
use Rattle.turn_bench.proofs.sized.take_turns.Given as goal

abbrev pub invariant-loop : goal.invariant-loop
invariant-loop g l = l.pass.cell ≡ l.fn.cell

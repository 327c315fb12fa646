use Rattle.std.proofs.Common.{◌≡◌}
use Rattle.turn_bench.proofs.turns.tenths.Given as goal

abbrev pub invariant-loop : goal.invariant-loop
invariant-loop g l = l.pass.cell ≡ l.fn.cell

use Rattle.std.specs.Prelude.{◌≡◌, true}
use Rattle.lanes.proofs.tests.take_all.Given as goal

abbrev pub invariant-loop : goal.invariant-loop
invariant-loop g l = l.lane.takes ≡ true

use Rattle.std.proofs.Common.{◌≡◌, true}
use Rattle.lanes.proofs.tests.a_lane_of_a_session_holds_sixteen.Given as goal

abbrev pub invariant-loop-piece : goal.invariant-loop-piece
invariant-loop-piece g l = l.puts.puts ≡ true

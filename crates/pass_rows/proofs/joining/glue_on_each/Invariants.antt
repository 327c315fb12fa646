use Rattle.std.proofs.Common.{◌≡◌, ◌≤◌, ◌++◌, length, take, drop, vec_len, List}
use Rattle.turn_cell.specs.Passes.{Passed}
use Rattle.pass_rows.specs.Joining.{AreJoined}
use Rattle.pass_rows.proofs.joining.glue_on_each.Given as goal

abbrev pub decreases-loop-other : goal.decreases-loop-other
decreases-loop-other g l = vec_len l.others

abbrev pub invariant-loop-other : goal.invariant-loop-other
invariant-loop-other g l = record {
  others : l.others.items ≡ take (length l.others.items) l.fn.others.items;
  ones : take (length l.others.items) l.ones.items ≡ take (length l.others.items) l.fn.ones.items;
  wide : length l.ones.items ≡ length l.fn.ones.items;
  joined : AreJoined g.T.Kept.meaning (drop (length l.others.items) l.fn.ones.items) (drop (length l.others.items) l.fn.others.items) (drop (length l.others.items) l.ones.items);
}

use Rattle.std.proofs.Common.{◌≤◌, ◌+◌, length, vec_len}
use Rattle.std.specs.Vec.{vec_capacity}
use Rattle.driver_close.proofs.Ending.{AreClosing}
use Rattle.driver_close.proofs.closing.close_domains.Given as goal

abbrev pub decreases-loop-pass : goal.decreases-loop-pass
decreases-loop-pass g l = vec_len l.passes

-- the last slots are closed, and the histories of the others fit
abbrev pub invariant-loop-pass : goal.invariant-loop-pass
invariant-loop-pass g l = record {
  closing : AreClosing l.fn.passes.items l.passes.items l.domains.items l.histories.items;
  room : length l.passes.items + length l.histories.items ≤ vec_capacity l.histories;
}

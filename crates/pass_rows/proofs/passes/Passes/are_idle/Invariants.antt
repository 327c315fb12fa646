use Rattle.std.proofs.Common.{take}
use Rattle.std.specs.List.{All}
use Rattle.pass_rows.specs.Resting.{IsIdle}
use Rattle.pass_rows.proofs.passes.Passes.are_idle.Given as goal

abbrev pub invariant-loop-pass : goal.invariant-loop-pass
invariant-loop-pass g l = All (IsIdle g.T.Kept.meaning) (take l.pass-index l.pass-items)

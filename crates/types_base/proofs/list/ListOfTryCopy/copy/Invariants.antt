use Rattle.std.proofs.Common.{◌≡◌, take}
use Rattle.types_base.proofs.list.ListOfTryCopy.copy.Given as goal

-- what was copied so far
abbrev pub invariant-loop-entry : goal.invariant-loop-entry
invariant-loop-entry g l = l.entries.items ≡ take l.entry-index l.entry-items

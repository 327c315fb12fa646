use Rattle.std.proofs.Common.{◌≡◌, take, map}
use Rattle.book_spec.specs.PoolReads.{row_of}
use Rattle.pool_core.proofs.table.rows_of.Given as goal

abbrev pub invariant-loop-entry : goal.invariant-loop-entry
invariant-loop-entry l = l.rows.items ≡ map row_of (take l.entry-index l.entries)

use Rattle.std.proofs.Common.{◌≡◌, length}
use Rattle.text_spec.specs.Table.{rows_fault}
use Rattle.text_spec.specs.Tree.{seen}
use Rattle.xml_tables.proofs.row.rows_test.Given as goal

abbrev pub invariant-loop-row : goal.invariant-loop-row
invariant-loop-row l =
    rows_fault l.names l.rest (seen l.tree) ≡ rows_fault l.names l.fn.rows (seen l.tree)

abbrev pub decreases-loop-row : goal.decreases-loop-row
decreases-loop-row l = length l.rest

use Rattle.std.proofs.Common.{◌≡◌, length}
use Rattle.std.specs.Prelude.{filter, map}
use Rattle.text_spec.specs.Look.{is_element}
use Rattle.text_spec.specs.Table.{wrong_in_each}
use Rattle.text_spec.specs.Tree.{seen}
use Rattle.xml_tables.proofs.row.wrong_among.Given as goal

abbrev pub invariant-loop-tree : goal.invariant-loop-tree
invariant-loop-tree l =
    wrong_in_each l.row (filter (is_element l.name) (map seen l.rest))
    ≡ wrong_in_each l.row (filter (is_element l.name) (map seen l.fn.trees))

abbrev pub decreases-loop-tree : goal.decreases-loop-tree
decreases-loop-tree l = length l.rest

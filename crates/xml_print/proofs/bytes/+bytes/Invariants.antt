use Rattle.std.proofs.Common.{◌≡◌, ◌≤◌, ◌-◌, ℕ, List, drop}
use Rattle.text_spec.specs.Tree.{all_seen}
use Rattle.text_spec.specs.Written.{trees_written}
use Rattle.xml_print.specs.Room.{room, IsInset}
use Rattle.xml_print.proofs.bytes.+bytes.Given as goal

abbrev pub invariant-after_trees-loop-tree : goal.invariant-after_trees-loop-tree
invariant-after_trees-loop-tree l =
    (l.rest ≤ l.fn.left) × ((blanks : List ℕ) → IsInset l.inset blanks
    → l.rest - room (trees_written blanks (all_seen (drop l.tree-index l.trees))) ≡ l.fn.left - room (trees_written blanks (all_seen l.trees)))

use Rattle.std.proofs.Common.{◌≡◌, ◌+◌, ◌≤◌, min, drop}
use Rattle.text_spec.specs.Tree.{all_seen}
use Rattle.text_spec.specs.Writable.{sizes}
use Rattle.xml_print.proofs.count.+count.Given as goal

abbrev pub invariant-count_all-loop-tree : goal.invariant-count_all-loop-tree
invariant-count_all-loop-tree l =
    (l.count ≤ l.limit) × (min l.limit (l.count + sizes (all_seen (drop l.tree-index l.trees))) ≡ min l.limit (sizes (all_seen l.trees)))

use Rattle.std.proofs.Common.{◌≡◌, ◌++◌, drop}
use Rattle.text_spec.specs.Tree.{all_seen}
use Rattle.text_spec.specs.Written.{trees_written}
use Rattle.markup.proofs.write.+write.Given as goal

abbrev pub invariant-push_trees-loop-tree : goal.invariant-push_trees-loop-tree
invariant-push_trees-loop-tree l =
    l.out.items ++ trees_written l.inset (all_seen (drop l.tree-index l.trees)) ≡ l.initial.out.items ++ trees_written l.inset (all_seen l.trees)

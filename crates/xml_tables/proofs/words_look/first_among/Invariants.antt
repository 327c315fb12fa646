use Rattle.std.proofs.Common.{length, ◌≡◌}
use Rattle.std.specs.Prelude.{find, map}
use Rattle.text_spec.specs.Tree.{seen}
use Rattle.xml_tables.specs.Called.{is_called}
use Rattle.xml_tables.proofs.words_look.first_among.Given as goal

abbrev pub invariant-loop-tree : goal.invariant-loop-tree
invariant-loop-tree l = find (is_called l.word) (map seen l.rest) ≡ find (is_called l.word) (map seen l.fn.trees)

abbrev pub decreases-loop-tree : goal.decreases-loop-tree
decreases-loop-tree l = length l.rest

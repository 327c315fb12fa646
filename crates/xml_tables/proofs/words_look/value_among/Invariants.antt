use Rattle.std.proofs.Common.{length, ◌≡◌}
use Rattle.std.specs.Prelude.{find}
use Rattle.xml_tables.specs.Called.{is_pair_called}
use Rattle.xml_tables.proofs.words_look.value_among.Given as goal

abbrev pub invariant-loop-pair : goal.invariant-loop-pair
invariant-loop-pair l = find (is_pair_called l.word) l.rest ≡ find (is_pair_called l.word) l.fn.pairs

abbrev pub decreases-loop-pair : goal.decreases-loop-pair
decreases-loop-pair l = length l.rest

use Rattle.std.proofs.Common.{◌≡◌, ◌≤◌, length, arith}
use Rattle.std.specs.Prelude.{chars}
use Rattle.std.proofs.lemmas.Bool.Decides.{nat_tests}
use Rattle.xml_print.proofs.Pieces.{leaf_none, leaf_some}
use Rattle.xml_print.proofs.bytes.after_leaf.Goals as goal

pub returns-then-is_empty : goal.returns-then-is_empty
returns-then-is_empty c =
    let none : length c.args.text.now ≡ 0 = grind (arith, nat_tests) in
    omega (arith, leaf_none (chars c.args.name.now) c.args.text.now none, c.saturating_sub.ensures)

pub returns-else-is_empty : goal.returns-else-is_empty
returns-else-is_empty c =
    let some : 1 ≤ length c.args.text.now = grind (arith, nat_tests) in
    omega (arith, leaf_some (chars c.args.name.now) c.args.text.now c.utf8.text some, c.after_name-named.ensures, c.after_text.ensures, c.saturating_sub-else-is_empty.ensures)

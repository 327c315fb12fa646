use Rattle.std.proofs.Common.{arith, ap}
use Rattle.std.specs.Prelude.{chars}
use Rattle.text_spec.specs.Text.{tree_of_characters}
use Rattle.markup.proofs.Whole.{read_whole}
use Rattle.markup.proofs.read.read_tree.Goals as goal

pub returns-in-Ok : goal.returns-in-Ok
returns-in-Ok c =
    let same = ap (λ bytes. tree_of_characters (chars bytes)) c.in-Ok.ensures.cases.0 in
    let read = rw same at c.tree_of_characters.ensures in
    rw (read_whole c.args.text.now (omega arith) c.in-Ok.ensures.cases.1) read

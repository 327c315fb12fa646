use Rattle.std.proofs.Common.{List, ℕ, subst}
use Rattle.store_reading.specs.Lines.{HasFirst}
use Rattle.store_reading.proofs.definition.first_of_one.Goals as goal

pub returns : goal.returns
returns c = subst (λ (l : List ℕ). HasFirst l c.args.bytes.now c.first_line.result) c.as_slice.ensures c.first_line.ensures

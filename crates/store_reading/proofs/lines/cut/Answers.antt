use Rattle.std.proofs.Common.{◌++◌, ◌∷◌, List, ℕ, sym, ap, ◌∙◌}
use Rattle.store_reading.specs.Lines.{has}
use Rattle.store_reading.proofs.Cutting.{cut_at, cut_none}
use Rattle.store_reading.proofs.lines.cut.Goals as goal

pub returns-in-Some : goal.returns-in-Some
returns-in-Some c =
    let k = cut_at c.args.mark c.args.bytes.now c.in-Some.place (sym c.in-Some.ensures) in
    (k.whole ∙ (λ i. sym c.split_at.ensures.front i ++ c.args.mark ∷ sym c.split_at-in-Some.ensures.back i), ap (λ (l : List ℕ). has c.args.mark l) c.split_at.ensures.front ∙ k.none)

pub returns-in-None : goal.returns-in-None
returns-in-None c = cut_none c.args.mark c.args.bytes.now (sym c.in-None.ensures)

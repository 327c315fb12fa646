use Rattle.std.proofs.Common.{ℕ, List, ◌<◌, length, ap, sym, ◌∙◌, subst}
use Rattle.turn_cell.specs.Passes.{Passed}
use Rattle.pass_rows.proofs.Slots.{taken}
use Rattle.pass_rows.proofs.passes.Passes.take.Goals as goal

pub returns-clause-all : goal.returns-clause-all
returns-clause-all g c =
    let in' = subst (λ (l : List (Passed g.row.T-Base.Denot g.row.T-Mark.Denot g.row.T-Share.Denot)). c.args.slot < length l) (sym c.self.view_is) c.requires in
    sym c.self.view_is ∙ taken c.self.inside.all.items _ c.args.slot _ _ in' c.swap_remove-pass.ensures.value c.swap_remove-pass.ensures.items c.into_pass.ensures

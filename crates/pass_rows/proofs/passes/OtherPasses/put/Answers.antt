use Rattle.std.proofs.Common.{ℕ, ◌∙◌, ◌++◌, ◌∷◌, List, sym, ap}
use Rattle.std.specs.List.{swap}
use Rattle.turn_cell.specs.Passes.{Passed}
use Rattle.pass_rows.specs.Others.{Others}
use Rattle.pass_rows.proofs.Slots.{put_back}
use Rattle.pass_rows.proofs.passes.OtherPasses.put.Goals as goal

pub returns : goal.returns
returns g c =
    let long = c.len-last.ensures ∙ c.self.inside.all.ok.0 in
    let now = c.swap.ensures.items ∙ ap (λ (n : ℕ). swap c.push_reserved.new.self.items c.self.inside.slot n) long in
    put_back _ _ _ c.self.inside.slot _ _ c.self.invariant.0 c.push_reserved.ensures.items now c.new.ensures
    ∙ ap (λ (o : Others (Passed g.row.T-Base.Denot g.row.T-Mark.Denot g.row.T-Share.Denot)). o.before ++ c.args.pass ∷ o.after) c.self.view_is

use Rattle.std.proofs.Common.{◌≡◌, ◌∙◌, Some, ap, refl, sym, subst}
use mathlib.Core.Option.{some-injective}
use Rattle.turn_cell.specs.Passes.{Passed, Closes}
use Rattle.turn_cell.proofs.Moves.{closes}
use Rattle.turn_cell.proofs.cell.TurnCell.close.Goals as goal

pub unwrap-requires : goal.unwrap-requires
unwrap-requires g c =
    let all = ap (λ (p : Passed g.row.T-Base.Denot g.row.T-Mark.Denot g.row.T-Share.Denot). p.parts) c.pass.view_is ∙ c.requires.last in
    let end = closes g.T.Kept.meaning c.pass.inside.seat.table_id _ _ _ _ c.pass.invariant.0.stage c.pass.invariant.0.named all c.close_with-closed.ensures.values.2 in
    let is = some-injective _ _ (sym c.take-home.ensures.value ∙ end.1) in
    rw is refl

pub returns : goal.returns
returns g c =
    let all = ap (λ (p : Passed g.row.T-Base.Denot g.row.T-Mark.Denot g.row.T-Share.Denot). p.parts) c.pass.view_is ∙ c.requires.last in
    let end = closes g.T.Kept.meaning c.pass.inside.seat.table_id _ _ _ _ c.pass.invariant.0.stage c.pass.invariant.0.named all c.close_with-closed.ensures.values.2 in
    let is : Some c.unwrap.result ≡ Some end.0 = sym c.unwrap.ensures ∙ some-injective _ _ (sym c.take-home.ensures.value ∙ end.1) in
    let found : end.0 ≡ c.unwrap.result = cc in
    let same : end.0 ≡ c.into_inner.result = found ∙ sym c.into_inner.ensures in
    subst (λ (z : Passed g.row.T-Base.Denot g.row.T-Mark.Denot g.row.T-Share.Denot × g.row.T.Denot). Closes g.T.Kept.meaning z.0 z.1) (λ i. (c.pass.view_is i, same i)) end.2

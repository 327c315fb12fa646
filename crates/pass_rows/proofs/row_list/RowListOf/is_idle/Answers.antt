use Rattle.std.proofs.Common.{refl, sym, ap, ◌∙◌, List}
use Rattle.types_base.specs.Room.{Roomy}
use Rattle.pass_rows.specs.Rows.{PassRow, IsIdleRow}
use Rattle.pass_rows.proofs.Idle.{one_more, all_are}
use Rattle.pass_rows.proofs.row_list.RowListOf.is_idle.Goals as goal

pub loop-row-preserved : goal.loop-row-preserved
loop-row-preserved g c = one_more (IsIdleRow g.L.Kept.meaning g.S.Kept.meaning g.D.Kept.meaning) _ c.loop-row.row-index _ c.loop-row-test.true c.loop-row.invariant c.row-item.is (c.if-not-is_idle.ensures.0 refl)

pub returns : goal.returns
returns g c = all_are (IsIdleRow g.L.Kept.meaning g.S.Kept.meaning g.D.Kept.meaning) _ _ c.loop-row.row-index c.loop-row-test.false c.loop-row.invariant (c.as_slice-row-items.ensures.value ∙ ap (λ (l : Roomy (PassRow g.row.L-Base.Denot g.row.L-Mark.Denot g.row.L-Share.Denot g.row.S-Base.Denot g.row.S-Mark.Denot g.row.S-Share.Denot g.row.D-Base.Denot g.row.D-Mark.Denot g.row.D-Share.Denot g.row.G.Denot)). l.list) c.self.view_is)

use Rattle.std.proofs.Common.{refl}
use Rattle.pass_rows.proofs.Idle.{row_is}
use Rattle.pass_rows.proofs.row.RowOf.is_idle.Goals as goal

pub returns : goal.returns
returns g c = row_is g.L.Kept.meaning g.S.Kept.meaning g.D.Kept.meaning _ _ _ (c.if-not-is_idle.ensures.0 refl) (c.if-not-is_idle-2.ensures.0 refl) c.are_idle.ensures c.self.view_is

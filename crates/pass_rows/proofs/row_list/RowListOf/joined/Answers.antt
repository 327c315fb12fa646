use Rattle.std.proofs.Common.{◌≡◌, length, refl, arith}
use Rattle.std.proofs.lemmas.List.{nil_from_length}
use Rattle.pass_rows.proofs.Together.{begin_with, next_is, go_on, ends}
use Rattle.pass_rows.proofs.row_list.RowListOf.joined.Goals as goal

pub loop-row-init : goal.loop-row-init
loop-row-init g c = begin_with g.L.Kept.meaning g.S.Kept.meaning g.D.Kept.meaning _ _ _ _ _ _ _ _ c.self.view_is c.pop.ensures.items c.unwrap-all.ensures c.requires.own c.requires.empty

pub join_row-requires-clause-one : goal.join_row-requires-clause-one
join_row-requires-clause-one g c = c.loop-row.invariant.all_is

pub join_row-requires-clause-other : goal.join_row-requires-clause-other
join_row-requires-clause-other g c = (next_is g.L.Kept.meaning g.S.Kept.meaning g.D.Kept.meaning _ _ _ _ _ _ c.in-Some.ensures.items c.loop-row.invariant.rows_are c.loop-row.invariant.empty).0

pub join_row-requires-clause-empty : goal.join_row-requires-clause-empty
join_row-requires-clause-empty g c = (next_is g.L.Kept.meaning g.S.Kept.meaning g.D.Kept.meaning _ _ _ _ _ _ c.in-Some.ensures.items c.loop-row.invariant.rows_are c.loop-row.invariant.empty).1

pub loop-row-preserved : goal.loop-row-preserved
loop-row-preserved g c = go_on g.L.Kept.meaning g.S.Kept.meaning g.D.Kept.meaning _ _ _ _ _ _ _ _ _ c.loop-row.invariant c.in-Some.ensures.items c.join_row.ensures

pub returns-clause-joined : goal.returns-clause-joined
returns-clause-joined g c =
    let none : length c.loop-row.rows.items ≡ 0 = omega (arith, c.in_default.ensures.cases.0, c.loop-row.rows.ok.0) in
    ends g.L.Kept.meaning g.S.Kept.meaning g.D.Kept.meaning _ _ _ _ _ _ _ c.loop-row.invariant (nil_from_length c.loop-row.rows.items none) refl

pub returns-clause-own : goal.returns-clause-own
returns-clause-own g c = c.loop-row.invariant.all_is

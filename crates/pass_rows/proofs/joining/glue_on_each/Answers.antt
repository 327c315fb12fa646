use Rattle.std.proofs.Common.{◌∙◌}
use Rattle.pass_rows.proofs.Gluing.{finds, is_own, is_empty, one_more}
use Rattle.pass_rows.proofs.joining.glue_on_each.Goals as goal

pub glue_on-requires-clause-one : goal.glue_on-requires-clause-one
glue_on-requires-clause-one g c =
    let inv = c.loop-other.invariant in
    let at = finds g.T.Kept.meaning _ _ _ _ _ _ c.len-place.result _ _ c.requires.ones c.requires.others (record { others_are = inv.others; ones_are = inv.ones; wide = inv.wide; glued = inv.joined }) c.in-Some.ensures.items (c.len-place.ensures ∙ c.pop.new.self.ok.0) c.index_mut.ensures.value in
    is_own g.T.Kept.meaning g.C.CellOf.place _ _ c.len-place.result _ _ _ c.requires.ones at.in_xs at.x_is c.index-cells-place.is c.turn_cell.ensures

pub glue_on-requires-clause-other : goal.glue_on-requires-clause-other
glue_on-requires-clause-other g c =
    let inv = c.loop-other.invariant in
    let at = finds g.T.Kept.meaning _ _ _ _ _ _ c.len-place.result _ _ c.requires.ones c.requires.others (record { others_are = inv.others; ones_are = inv.ones; wide = inv.wide; glued = inv.joined }) c.in-Some.ensures.items (c.len-place.ensures ∙ c.pop.new.self.ok.0) c.index_mut.ensures.value in
    is_own g.T.Kept.meaning g.C.CellOf.place _ _ c.len-place.result _ _ _ c.requires.others at.in_ys at.o_is c.index-cells-place.is c.turn_cell.ensures

pub glue_on-requires-clause-empty : goal.glue_on-requires-clause-empty
glue_on-requires-clause-empty g c =
    let inv = c.loop-other.invariant in
    let at = finds g.T.Kept.meaning _ _ _ _ _ _ c.len-place.result _ _ c.requires.ones c.requires.others (record { others_are = inv.others; ones_are = inv.ones; wide = inv.wide; glued = inv.joined }) c.in-Some.ensures.items (c.len-place.ensures ∙ c.pop.new.self.ok.0) c.index_mut.ensures.value in
    is_empty g.T.Kept.meaning _ c.len-place.result _ c.requires.empty at.in_ys at.o_is

pub loop-other-preserved : goal.loop-other-preserved
loop-other-preserved g c =
    let inv = c.loop-other.invariant in
    let more = one_more g.T.Kept.meaning _ _ _ _ _ _ c.len-place.result _ _ _ c.requires.ones c.requires.others (record { others_are = inv.others; ones_are = inv.ones; wide = inv.wide; glued = inv.joined }) c.in-Some.ensures.items (c.len-place.ensures ∙ c.pop.new.self.ok.0) c.index_mut.ensures.value c.glue_on.ensures in
    record { others = more.others_are; ones = more.ones_are; wide = more.wide; joined = more.glued }

use Rattle.std.proofs.Common.{sym, subst, arith}
use Rattle.std.specs.List.{AllZip}
use Rattle.turn_cell.specs.Passes.{IsCutOff}
use Rattle.pass_rows.proofs.Cuts.{is_own, has_parts, has_room, one_more}
use Rattle.pass_rows.proofs.cutting.cut_off_each.Goals as goal

pub cut_off-requires-clause-own : goal.cut_off-requires-clause-own
cut_off-requires-clause-own g c = is_own g.T.Kept.meaning g.C.CellOf.place _ _ _ c.loop-i.i _ _ _ c.requires.own c.loop-i.invariant.passes (omega arith) c.index_mut.ensures.value c.index-cells-i.is c.turn_cell.ensures

pub cut_off-requires-clause-parts : goal.cut_off-requires-clause-parts
cut_off-requires-clause-parts g c = has_parts g.T.Kept.meaning _ _ c.loop-i.i _ c.requires.parts c.loop-i.invariant.passes (omega arith) c.index_mut.ensures.value

pub push_reserved-requires : goal.push_reserved-requires
push_reserved-requires g c =
    let room = has_room g.T.Kept.meaning _ _ c.loop-i.i _ c.loop-i.invariant.parts (omega arith) c.loop-i.invariant.room in
    omega (arith, room, c.loop-i.parts.ok.0)

pub loop-i-preserved : goal.loop-i-preserved
loop-i-preserved g c =
    let more = one_more g.T.Kept.meaning _ _ _ _ c.loop-i.i _ _ _ c.push_reserved.ensures.items c.loop-i.invariant.passes (omega arith) c.index_mut.ensures.value c.loop-i.invariant.parts c.cut_off.ensures.kept c.cut_off.ensures.new in
    record {
      passes = more.0;
      parts = more.1;
      room = omega arith;
    }

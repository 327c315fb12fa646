use Rattle.std.proofs.Common.{◌∙◌, arith}
use Rattle.turn_cell.proofs.Parts.{joins, both_tells}
use Rattle.turn_cell.proofs.steps.glue.Goals as goal

pub join_seat-requires : goal.join_seat-requires
join_seat-requires g c =
    let p = c.requires.passes in
    (c.requires.own.0, c.requires.other, p.other_is.slot, omega (arith, c.requires.own.1), joins g.T.Kept.meaning g.met.T.Kept.no_mark_lowers _ _ c.args.seat.now.me.0 c.args.other.me.0 p.one_is.stage p.other_is.stage p.one_is.parts p.other_is.parts p.other_is.named p.empty)

pub load-requires : goal.load-requires
load-requires g c =
    let both = c.join_seat.ensures in
    (both.0 ∙ c.requires.own.0, omega (arith, c.requires.own.1), both_tells g.T.Kept.meaning _ _ c.args.seat.now.me.0 c.args.other.me.0 c.args.seat.now.me.1 c.join_seat.new.seat.me both.2 c.requires.passes.one_is.parts)

use Rattle.std.proofs.Common.{◌∙◌, arith}
use Rattle.turn_cell.proofs.Parts.{splits, part_names}
use Rattle.turn_cell.proofs.steps.cut.Goals as goal

pub split_seat-part-requires : goal.split_seat-part-requires
split_seat-part-requires g c = (c.requires.own.0, omega (arith, c.requires.own.1), splits g.T.Kept.meaning _ c.args.seat.now.me.0 c.requires.parts.stage c.requires.parts.named c.requires.parts.parts)

pub load-requires : goal.load-requires
load-requires g c =
    let cut = c.split_seat-part.ensures in
    (cut.3 ∙ c.requires.own.0, omega (arith, c.requires.own.1), part_names g.T.Kept.meaning _ _ c.args.seat.now.me.0 c.split_seat-part.result.me cut.4)

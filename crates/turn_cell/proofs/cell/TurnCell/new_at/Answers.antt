use Rattle.std.proofs.Common.{◌∙◌, [], ap}
use Rattle.turn_cell.specs.Rule.{newcomer}
use Rattle.turn_cell.proofs.Moves.{opens, first_idle}
use Rattle.turn_cell.proofs.cell.TurnCell.new_at.Goals as goal

pub new-requires-2 : goal.new-requires-2
new-requires-2 g c = rw (c.push_reserved.ensures.items, c.in-Ok-with_capacity.ensures.items, c.in-Ok.ensures.ok, c.of.ensures, c.marks-marks.ensures) (opens g.T.Kept.meaning c.args.first_ticket c.args.value c.requires.ticket c.requires.chapter c.requires.marks c.requires.share)

pub invariant_of-result-in-Ok-new : goal.invariant_of-result-in-Ok-new
invariant_of-result-in-Ok-new g c = first_idle g.T.Kept.meaning c.args.first_ticket c.args.value c.in-Ok-new.seat.me c.requires.marks (c.in-Ok-new.ensures.ok.4 ∙ ap (λ (x : g.row.T.Denot). (newcomer g.T.Kept.meaning x c.args.first_ticket, [])) c.of.ensures)

use Rattle.std.proofs.Common.{◌≡◌, is_some}
use Rattle.domain_obj.proofs.Going.{Keeps}
use Rattle.domain_obj.proofs.finishing.finish.Given as goal

abbrev pub invariant-loop : goal.invariant-loop
invariant-loop g l =
    (goal.iterator-loop g).can_next l.iterator' × (goal.iterator-loop g).is_finite l.iterator' × (l.pass.cell ≡ l.fn.cell)
    × Keeps l.fn.pass l.pass l.asked (is_some l.ticket.monitor) (g.D.Desk.report l.fn.desk) (g.D.Desk.report l.desk)

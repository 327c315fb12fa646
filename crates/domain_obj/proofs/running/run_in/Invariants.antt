use Rattle.std.proofs.Common.{◌≡◌}
use Rattle.domain_obj.proofs.Calling.{LooksOn}
use Rattle.domain_obj.proofs.running.run_in.Given as goal

abbrev pub invariant-loop : goal.invariant-loop
invariant-loop g l =
    (goal.iterator-loop g).can_next l.iterator' × (goal.iterator-loop g).is_finite l.iterator' × (l.pass.cell ≡ l.fn.cell)
    × LooksOn l.fn.who l.fn.call l.fn.pass l.pass l.first l.turns × (g.D.Desk.report l.desk ≡ g.D.Desk.report l.fn.desk)

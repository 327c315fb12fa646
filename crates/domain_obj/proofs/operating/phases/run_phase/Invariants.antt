use Rattle.std.proofs.Common.{◌≡◌}
use Rattle.domain_obj.proofs.DuePhase.{Awaits}
use Rattle.domain_obj.proofs.operating.phases.run_phase.Given as goal

abbrev pub invariant-loop : goal.invariant-loop
invariant-loop g l =
    (goal.iterator-loop g).can_next l.iterator' × (goal.iterator-loop g).is_finite l.iterator' × (l.pass.cell ≡ l.fn.cell)
    × Awaits l.fn.pass l.pass × (g.D.Desk.report l.desk ≡ g.D.Desk.report l.fn.desk)

abbrev pub ghost-phase_once : goal.ghost-phase_once
ghost-phase_once g a = g.operation

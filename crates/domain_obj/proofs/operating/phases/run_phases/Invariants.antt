use Rattle.std.proofs.Common.{◌≡◌}
use Rattle.domain_obj.proofs.GoingOn.{GoesOnBy, operation_or}
use Rattle.domain_obj.proofs.operating.phases.run_phases.Given as goal

abbrev pub invariant-loop : goal.invariant-loop
invariant-loop g l =
    (goal.iterator-loop g).can_next l.iterator' × (goal.iterator-loop g).is_finite l.iterator' × (l.pass.cell ≡ l.fn.cell)
    × GoesOnBy l.fn.who g.operation l.fn.pass l.pass (g.D.Desk.report l.fn.desk) (g.D.Desk.report l.desk)

abbrev pub ghost-run_phase : goal.ghost-run_phase
ghost-run_phase g a = operation_or a.pass g.operation

abbrev pub ghost-end_once : goal.ghost-end_once
ghost-end_once g a = operation_or a.pass g.operation

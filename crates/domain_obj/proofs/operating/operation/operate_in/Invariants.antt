use Rattle.std.proofs.Common.{◌≡◌}
use Rattle.domain_obj.proofs.GoingOn.{operation_or}
use Rattle.domain_obj.proofs.Operations.{Enters, no_operation}
use Rattle.domain_obj.proofs.operating.operation.operate_in.Given as goal

abbrev pub invariant-loop : goal.invariant-loop
invariant-loop g l =
    (goal.iterator-loop g).can_next l.iterator' × (goal.iterator-loop g).is_finite l.iterator' × (l.pass.cell ≡ l.fn.cell)
    × Enters l.fn.who l.fn.call l.fn.pass l.pass l.turns × (g.D.Desk.report l.desk ≡ g.D.Desk.report l.fn.desk)

abbrev pub ghost-run_phases : goal.ghost-run_phases
ghost-run_phases g a = operation_or a.pass no_operation

use Rattle.std.proofs.Common.{sym, subst, ◌∙◌}
use Rattle.virt_types.specs.Memory.{UnlessNoMemory}
use Rattle.row_session.proofs.Unserved.{served_read, unserved_read}
use Rattle.row_session.proofs.asking.read.Goals as goal

pub returns-then-is_unserved-clause-fault : goal.returns-then-is_unserved-clause-fault
returns-then-is_unserved-clause-fault g c = unserved_read g.D.Service.is_served c.args.call.now.header c.args.call.now.payload (sym c.is_unserved.ensures ∙ c.if-is_unserved.true)

pub returns-clause-fault : goal.returns-clause-fault
returns-clause-fault g c =
    let same = served_read g.D.Service.is_served c.args.call.now.header c.args.call.now.payload (sym c.is_unserved.ensures ∙ c.if-is_unserved.false) in
    subst (λ r. UnlessNoMemory c.read_call.result r) (sym same) (rw c.as_slice.ensures at c.read_call.ensures.fault)

use Rattle.std.proofs.Common.{ℕ, subst}
use Rattle.core_steps.specs.declared.beginning.OperationLook.TheVariants as look
use Rattle.domain_core.specs.Entering.{EntersSo}
use Rattle.domain_core.proofs.Begins.{none_enters_so}
use Rattle.domain_core.proofs.operations.enter_on.Goals as goal

pub returns-in-Err-clause-looks : goal.returns-in-Err-clause-looks
returns-in-Err-clause-looks c =
    let a = c.args in
    none_enters_so a.by.number a.who a.call.now a.kept.now c.look_for.new.kept c.keep_refusal.new.kept a.queue.now c.look_for.new.queue c.keep_refusal.new.queue c.in-Excluded.held c.in-Excluded.boot c.in-Excluded.looks
    (subst (λ (k : ℕ). EntersSo k a.who a.call.now a.kept.now c.look_for.new.kept a.queue.now c.look_for.new.queue (look.Excluded c.in-Excluded.held c.in-Excluded.boot c.in-Excluded.looks)) c.again.ensures c.in-Excluded.ensures.looks)
    c.keep_refusal.ensures.same c.in-Err.ensures.err

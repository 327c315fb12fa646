use Rattle.std.proofs.Common.{ℕ, subst}
use Rattle.domain_spec.specs.Reading.{live_boot}
use Rattle.core_steps.specs.OfRecord.{force_of}
use Rattle.core_steps.specs.Looking.{LooksSo, boot_first}
use Rattle.core_steps.specs.declared.looking.Looked.TheVariants as looked
use Rattle.domain_core.proofs.Looks.{none_looked}
use Rattle.domain_core.proofs.looking.look_on.Goals as goal

pub returns-in-Err-clause-looks : goal.returns-in-Err-clause-looks
returns-in-Err-clause-looks c =
    let a = c.args in
    let b = boot_first a.first (live_boot (force_of a.kept.now).state) in
    none_looked a.by.number a.who a.call.now b a.kept.now c.look.new.kept c.keep_refusal.new.kept a.queue.now c.look.new.queue c.keep_refusal.new.queue c.in-Excluded.held c.in-Excluded.boot c.in-Excluded.looks
    (subst (λ (k : ℕ). LooksSo k a.who a.call.now b a.kept.now c.look.new.kept a.queue.now c.look.new.queue (looked.Excluded c.in-Excluded.held c.in-Excluded.boot c.in-Excluded.looks)) c.again.ensures c.in-Excluded.ensures.looks)
    c.keep_refusal.ensures.same c.in-Err.ensures.err

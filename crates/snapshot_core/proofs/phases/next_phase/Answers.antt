use Rattle.std.proofs.Common.{◌≡◌, ◌∙◌, ap, false, sym}
use Rattle.domain_spec.specs.Reading.{carries_ended}
use Rattle.core_rules.specs.Place.{next_at}
use Rattle.snapshot_core.specs.Plan.{due_plan}
use Rattle.snapshot_core.proofs.PhaseProofs.{next_due}
use Rattle.snapshot_core.proofs.phases.next_phase.Goals as goal

pub returns-in-Held-clause-asked : goal.returns-in-Held-clause-asked
returns-in-Held-clause-asked c =
    let live : carries_ended c.args.state.now c.args.operation.now.boot ≡ false = cc (c.carries_ended.ensures, c.if-carries_ended.false) in
    rw (c.in-Held.is)
    (c.of.ensures ∙ c.due_ask.ensures ∙ ap (next_at (due_plan c.in-Held.domain)) c.place_after.ensures
    ∙ sym (next_due c.in-Held.domain c.args.operation.now c.args.answers.now (rw c.in-Held.is at live) (rw c.in-Held.is at c.requires.core)))

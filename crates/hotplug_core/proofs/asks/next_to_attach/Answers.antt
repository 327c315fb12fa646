-- What is next is at the place of the next ask.
use Rattle.std.proofs.Common.{ap, refl, ◌∙◌}
use Rattle.core_rules.specs.Next.{next_if}
use Rattle.hotplug_core.proofs.Planned.{asks_there, in_any_case, next_there}
use Rattle.hotplug_core.proofs.asks.next_to_attach.Goals as goal

pub returns-in_ok-attach_ask-in-Plan-clause-next : goal.returns-in_ok-attach_ask-in-Plan-clause-next
returns-in_ok-attach_ask-in-Plan-clause-next c =
    next_there _ c.args.answers.now _ c.of.result c.in-Plan.ensures (c.of.ensures ∙ ap next_if c.in_ok-attach_ask-in-Plan.ensures.ask)

pub returns-in-Undo-clause-next : goal.returns-in-Undo-clause-next
returns-in-Undo-clause-next c =
    next_there _ c.args.answers.now _ c.of-in-Undo.result c.in-Undo.ensures (c.of-in-Undo.ensures ∙ ap next_if c.attach_undo.ensures)

pub returns-in-Through-clause-next : goal.returns-in-Through-clause-next
returns-in-Through-clause-next c = next_there _ c.args.answers.now _ _ c.in-Through.ensures refl

pub returns-in_err-attach_ask-in-Plan-clause-memory : goal.returns-in_err-attach_ask-in-Plan-clause-memory
returns-in_err-attach_ask-in-Plan-clause-memory c =
    in_any_case c.from_residual.result (asks_there _ c.args.answers.now _ _ c.in-Plan.ensures refl c.in_err-attach_ask-in-Plan.ensures.memory)

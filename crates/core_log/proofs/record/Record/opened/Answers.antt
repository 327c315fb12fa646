use Rattle.std.proofs.Common.{sym, subst}
use Rattle.event_queue.specs.Listening.{Registered}
use Rattle.core_log.specs.Record.{IsHeld}
use Rattle.core_log.proofs.NextChapter.{held_opened}
use Rattle.core_log.proofs.record.Record.opened.Goals as goal

pub invariant_of-result : goal.invariant_of-result
invariant_of-result c =
    subst (λ (r : Registered). IsHeld c.in-Ok.ledger r.listeners) (sym c.new.ensures)
    (held_opened c.in-Ok.ledger c.args.stored c.args.autostart c.in-Ok.ensures.history)

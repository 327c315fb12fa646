use Rattle.std.proofs.Common.{List, ◌∙◌, ap, sym, subst}
use Rattle.event_queue.specs.Listening.{Listening, registrations}
use Rattle.core_log.specs.Record.{IsHeld}
use Rattle.core_log.proofs.Registered.{dropped_kept, dropped_spare, held_dropped}
use Rattle.core_log.proofs.clients.drop_events.Goals as goal

pub returns-clause-registrations : goal.returns-clause-registrations
returns-clause-registrations c = ap registrations c.drop_events.ensures.listeners ∙ dropped_kept c.args.listeners.now.listeners c.args.client c.requires.held.apart

pub returns-clause-spare : goal.returns-clause-spare
returns-clause-spare c = dropped_spare c.args.ledger.now.spare c.args.listeners.now.listeners c.drop_events.new.self.listeners c.args.client c.requires.held.apart c.drop_events.ensures.listeners

pub returns-clause-held : goal.returns-clause-held
returns-clause-held c =
    subst (λ (ls : List Listening). IsHeld c.args.ledger.now ls) (sym c.drop_events.ensures.listeners)
    (held_dropped c.args.ledger.now c.args.listeners.now.listeners c.args.client c.requires.held)

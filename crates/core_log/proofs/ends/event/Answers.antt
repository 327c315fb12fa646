use Rattle.std.proofs.Common.{[], ◌∷◌}
use Rattle.domain_spec.specs.declared.mark.Mark.TheVariants as mark
use Rattle.domain_spec.specs.Exit.{event_transitions}
use Rattle.core_flight.specs.Ledger.{now_in}
use Rattle.event_queue.specs.Listening.{registrations}
use Rattle.core_log.specs.Following.{IsFollowed}
use Rattle.core_log.specs.Record.{open_ends}
use Rattle.core_log.proofs.Closing.{still_fits_one}
use Rattle.core_log.proofs.Cuts.{plain_event}
use Rattle.core_log.proofs.Held.{held_told, may_tell, tells}
use Rattle.core_log.proofs.ends.event.Goals as goal

pub tell-requires-clause-legal : goal.tell-requires-clause-legal
tell-requires-clause-legal c =
    let a = c.args in
    may_tell a.ledger.now c.event.new.self a.listeners.now.listeners (mark.Event a.boot a.event (event_transitions (now_in a.ledger.now).state a.event) ∷ []) c.requires.held c.event.ensures.history (plain_event a.boot a.event (event_transitions (now_in a.ledger.now).state a.event)) c.settled.ensures.lost

pub returns-clause-told : goal.returns-clause-told
returns-clause-told c =
    let a = c.args in
    let by : IsFollowed c.event.new.self c.tell.new.ledger a.listeners.now.listeners c.tell.new.listeners.listeners =
    record { history = c.tell.ensures.history; course = c.tell.ensures.course; listeners = c.tell.ensures.listeners; spare = c.tell.ensures.spare; legal = c.tell.ensures.settled } in
    tells a.ledger.now c.event.new.self c.tell.new.ledger a.listeners.now.listeners c.tell.new.listeners.listeners (mark.Event a.boot a.event (event_transitions (now_in a.ledger.now).state a.event) ∷ []) c.requires.held c.event.ensures.history (plain_event a.boot a.event (event_transitions (now_in a.ledger.now).state a.event)) c.settled.ensures.lost by

pub returns-clause-held : goal.returns-clause-held
returns-clause-held c =
    let a = c.args in
    let by : IsFollowed c.event.new.self c.tell.new.ledger a.listeners.now.listeners c.tell.new.listeners.listeners =
    record { history = c.tell.ensures.history; course = c.tell.ensures.course; listeners = c.tell.ensures.listeners; spare = c.tell.ensures.spare; legal = c.tell.ensures.settled } in
    held_told a.ledger.now c.event.new.self c.tell.new.ledger a.listeners.now.listeners c.tell.new.listeners.listeners (mark.Event a.boot a.event (event_transitions (now_in a.ledger.now).state a.event) ∷ []) c.requires.held c.event.ensures.history (plain_event a.boot a.event (event_transitions (now_in a.ledger.now).state a.event)) c.settled.ensures.lost
    (still_fits_one (open_ends (registrations a.listeners.now.listeners)) a.ledger.now.spare c.event.new.self.spare c.requires.room c.event.ensures.spare) by

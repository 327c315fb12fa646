use Rattle.core_log.proofs.Registered.{held_unwatched, unwatch_lawful, unwatch_room, unwatch_spare, unwatched}
use Rattle.core_log.proofs.clients.unwatch.Goals as goal

pub unwatch-requires-clause-room : goal.unwatch-requires-clause-room
unwatch-requires-clause-room c = let a = c.args in unwatch_room a.ledger.now a.listeners.now.listeners a.by.number a.client c.requires.held c.requires.quiet

pub unwatch-requires-clause-lawful : goal.unwatch-requires-clause-lawful
unwatch-requires-clause-lawful c = let a = c.args in unwatch_lawful a.ledger.now a.listeners.now.listeners a.by.number a.client c.requires.held c.requires.quiet c.settled.ensures.lost

pub returns-clause-marked : goal.returns-clause-marked
returns-clause-marked c =
    let a = c.args in
    unwatched a.ledger.now c.unwatch.new.self a.listeners.now.listeners c.leave.new.self.listeners a.by.number a.client c.requires.held c.leave.ensures.listeners c.unwatch.ensures.history c.settled-2.ensures.legal

pub returns-clause-held : goal.returns-clause-held
returns-clause-held c =
    let a = c.args in
    held_unwatched a.ledger.now c.unwatch.new.self a.listeners.now.listeners c.leave.new.self.listeners a.by.number a.client c.requires.held c.requires.quiet c.leave.ensures.listeners c.unwatch.ensures.history
    c.unwatch.ensures.spare

pub returns-clause-spare : goal.returns-clause-spare
returns-clause-spare c =
    let a = c.args in
    unwatch_spare a.ledger.now c.unwatch.new.self a.listeners.now.listeners c.leave.new.self.listeners a.by.number a.client c.requires.held c.requires.quiet c.leave.ensures.listeners c.unwatch.ensures.spare

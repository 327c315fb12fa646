use Rattle.std.proofs.Common.{ℕ, [], ◌∷◌, ◌++◌, ap, ◌∙◌}
use Rattle.event_queue.specs.Listening.{new_listening}
use Rattle.core_log.proofs.Registered.{held_watched, watch_lawful, watch_spare, watched}
use Rattle.core_log.proofs.clients.watch.Goals as goal

pub watch-requires-clause-lawful : goal.watch-requires-clause-lawful
watch-requires-clause-lawful c = let a = c.args in watch_lawful a.ledger.now a.listeners.now.listeners a.by.number a.client c.requires.held c.requires.free c.settled.ensures.lost

pub returns-in-Ok-clause-marked : goal.returns-in-Ok-clause-marked
returns-in-Ok-clause-marked c =
    let a = c.args in
    watched a.ledger.now c.watch.new.self a.listeners.now.listeners c.add.new.self.listeners a.by.number a.client c.requires.held
    (c.in-Ok.ensures.ok ∙ ap (λ (k : ℕ). a.listeners.now.listeners ++ new_listening k a.client ∷ []) c.again.ensures) c.watch.ensures.history c.settled-in-Ok.ensures.legal

pub returns-in-Ok-clause-held : goal.returns-in-Ok-clause-held
returns-in-Ok-clause-held c =
    let a = c.args in
    held_watched a.ledger.now c.watch.new.self a.listeners.now.listeners c.add.new.self.listeners a.by.number a.client c.requires.held c.requires.free
    (c.in-Ok.ensures.ok ∙ ap (λ (k : ℕ). a.listeners.now.listeners ++ new_listening k a.client ∷ []) c.again.ensures) c.watch.ensures.history c.requires.room c.watch.ensures.spare

pub returns-in-Ok-clause-spare : goal.returns-in-Ok-clause-spare
returns-in-Ok-clause-spare c =
    let a = c.args in
    watch_spare a.ledger.now c.watch.new.self a.listeners.now.listeners c.add.new.self.listeners a.by.number a.client
    (c.in-Ok.ensures.ok ∙ ap (λ (k : ℕ). a.listeners.now.listeners ++ new_listening k a.client ∷ []) c.again.ensures) c.requires.room c.watch.ensures.spare

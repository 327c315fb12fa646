use Rattle.std.proofs.Common.{[], ◌∷◌, refl}
use Rattle.domain_spec.specs.declared.mark.Mark.TheVariants as mark
use Rattle.event_queue.specs.Listening.{registrations}
use Rattle.core_log.specs.Record.{open_ends}
use Rattle.core_log.proofs.Closing.{still_fits_one}
use Rattle.core_log.proofs.Cuts.{plain_refused}
use Rattle.core_log.proofs.Held.{held_quiet, marked_quiet}
use Rattle.core_log.proofs.calls.refuse.Goals as goal

pub returns-clause-marked : goal.returns-clause-marked
returns-clause-marked c =
    let a = c.args in
    marked_quiet a.ledger.now c.refuse.new.self a.listeners.now.listeners (mark.Refused a.by.number a.who a.call a.code a.held ∷ []) c.requires.held
    (plain_refused a.by.number a.who a.call a.code a.held, refl, tt) c.refuse.ensures.history c.settled.ensures.legal

pub returns-clause-held : goal.returns-clause-held
returns-clause-held c =
    let a = c.args in
    held_quiet a.ledger.now c.refuse.new.self a.listeners.now.listeners (mark.Refused a.by.number a.who a.call a.code a.held ∷ []) c.requires.held
    (plain_refused a.by.number a.who a.call a.code a.held, refl, tt) c.refuse.ensures.history
    (still_fits_one (open_ends (registrations a.listeners.now.listeners)) a.ledger.now.spare c.refuse.new.self.spare c.requires.room c.refuse.ensures.spare)

use Rattle.std.proofs.Common.{[], ◌∷◌, refl}
use Rattle.domain_spec.specs.declared.mark.Mark.TheVariants as mark
use Rattle.core_flight.specs.Below.core_chapter.Closing.{reply_in}
use Rattle.core_flight.specs.Ledger.{now_in}
use Rattle.event_queue.specs.Listening.{registrations}
use Rattle.core_log.specs.Record.{open_ends}
use Rattle.core_log.proofs.Closing.{still_fits_one}
use Rattle.core_log.proofs.Cuts.{plain_end}
use Rattle.core_log.proofs.Held.{held_quiet, marked_quiet}
use Rattle.core_log.proofs.operations.end.Goals as goal

pub returns-clause-marked : goal.returns-clause-marked
returns-clause-marked c =
    let a = c.args in
    let r = reply_in (now_in a.ledger.now).operation in
    marked_quiet a.ledger.now c.end-told.new.self a.listeners.now.listeners (mark.End a.by.number a.who r ∷ []) c.requires.held
    (plain_end a.by.number a.who r, refl, tt) c.end-told.ensures.history c.settled.ensures.legal

pub returns-clause-held : goal.returns-clause-held
returns-clause-held c =
    let a = c.args in
    let r = reply_in (now_in a.ledger.now).operation in
    held_quiet a.ledger.now c.end-told.new.self a.listeners.now.listeners (mark.End a.by.number a.who r ∷ []) c.requires.held
    (plain_end a.by.number a.who r, refl, tt) c.end-told.ensures.history
    (still_fits_one (open_ends (registrations a.listeners.now.listeners)) a.ledger.now.spare c.end-told.new.self.spare c.requires.room c.end-told.ensures.spare)

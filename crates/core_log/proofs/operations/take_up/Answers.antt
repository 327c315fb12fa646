use Rattle.std.proofs.Common.{[], ◌∷◌, refl}
use Rattle.domain_spec.specs.declared.mark.Mark.TheVariants as mark
use Rattle.core_flight.specs.Below.core_plan.Going.{first_course}
use Rattle.core_flight.specs.Ledger.{now_in}
use Rattle.event_queue.specs.Listening.{registrations}
use Rattle.core_log.specs.Following.{IsFollowed}
use Rattle.core_log.specs.Record.{admit_of, open_ends}
use Rattle.core_log.proofs.Closing.{admit_quiet, done_held, done_tell, is_done, still_fits}
use Rattle.core_log.proofs.Held.{held_quiet, marked_quiet}
use Rattle.core_log.proofs.Phasing.{taken_quiet, two_added}
use Rattle.core_log.proofs.operations.take_up.Goals as goal

pub tell-requires-clause-legal : goal.tell-requires-clause-legal
tell-requires-clause-legal c =
    let a = c.args in
    done_tell a.ledger.now c.take_up.new.self a.listeners.now.listeners (admit_of a.by.number a.who a.call.now a.boot ∷ []) a.by.number (first_course (now_in a.ledger.now).state a.call.now a.boot) c.in-Done.reply
    c.requires.held (admit_quiet a.by.number a.who a.call.now a.boot) c.in-Done.ensures.begun.1 c.settled.ensures.lost

pub returns-in-Done-clause-begun : goal.returns-in-Done-clause-begun
returns-in-Done-clause-begun c =
    let a = c.args in
    let e = c.in-Done.ensures.begun in
    let by : IsFollowed c.take_up.new.self c.tell.new.ledger a.listeners.now.listeners c.tell.new.listeners.listeners =
    record { history = c.tell.ensures.history; course = c.tell.ensures.course; listeners = c.tell.ensures.listeners; spare = c.tell.ensures.spare; legal = c.tell.ensures.settled } in (
      e.0,
      is_done a.ledger.now c.take_up.new.self c.tell.new.ledger a.listeners.now.listeners c.tell.new.listeners.listeners (admit_of a.by.number a.who a.call.now a.boot ∷ []) a.by.number
          (first_course (now_in a.ledger.now).state a.call.now a.boot) c.in-Done.reply c.requires.held (admit_quiet a.by.number a.who a.call.now a.boot) e.1 e.2 c.settled.ensures.lost by,
    )

pub returns-in-Done-clause-held : goal.returns-in-Done-clause-held
returns-in-Done-clause-held c =
    let a = c.args in
    let e = c.in-Done.ensures.begun in
    let by : IsFollowed c.take_up.new.self c.tell.new.ledger a.listeners.now.listeners c.tell.new.listeners.listeners =
    record { history = c.tell.ensures.history; course = c.tell.ensures.course; listeners = c.tell.ensures.listeners; spare = c.tell.ensures.spare; legal = c.tell.ensures.settled } in
    done_held a.ledger.now c.take_up.new.self c.tell.new.ledger a.listeners.now.listeners c.tell.new.listeners.listeners (admit_of a.by.number a.who a.call.now a.boot ∷ []) a.by.number
    (first_course (now_in a.ledger.now).state a.call.now a.boot) c.in-Done.reply c.requires.held (admit_quiet a.by.number a.who a.call.now a.boot) e.1 c.settled.ensures.lost
    (still_fits 7 (open_ends (registrations a.listeners.now.listeners)) a.ledger.now.spare c.take_up.new.self.spare c.requires.room c.take_up.ensures.spare) by

pub returns-in-GoesOn-clause-begun : goal.returns-in-GoesOn-clause-begun
returns-in-GoesOn-clause-begun c =
    let a = c.args in
    let e = c.in-GoesOn.ensures.begun in (
      e.0,
      marked_quiet a.ledger.now c.take_up.new.self a.listeners.now.listeners (admit_of a.by.number a.who a.call.now a.boot ∷ mark.TakeUp a.by.number a.who a.call.now ∷ []) c.requires.held
          (taken_quiet a.by.number a.who a.call.now a.boot)
          (two_added a.ledger.now.history c.take_up.new.self.history (admit_of a.by.number a.who a.call.now a.boot) (mark.TakeUp a.by.number a.who a.call.now) e.1)
          c.settled-in-GoesOn.ensures.legal,
      refl,
      e.2,
    )

pub returns-in-GoesOn-clause-held : goal.returns-in-GoesOn-clause-held
returns-in-GoesOn-clause-held c =
    let a = c.args in
    let e = c.in-GoesOn.ensures.begun in
    held_quiet a.ledger.now c.take_up.new.self a.listeners.now.listeners (admit_of a.by.number a.who a.call.now a.boot ∷ mark.TakeUp a.by.number a.who a.call.now ∷ []) c.requires.held
    (taken_quiet a.by.number a.who a.call.now a.boot)
    (two_added a.ledger.now.history c.take_up.new.self.history (admit_of a.by.number a.who a.call.now a.boot) (mark.TakeUp a.by.number a.who a.call.now) e.1)
    (still_fits 7 (open_ends (registrations a.listeners.now.listeners)) a.ledger.now.spare c.take_up.new.self.spare c.requires.room c.take_up.ensures.spare)

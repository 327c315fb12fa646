use Rattle.std.proofs.Common.{[], ◌∷◌, refl}
use Rattle.core_flight.specs.Below.core_plan.Starving.{starved}
use Rattle.core_flight.specs.Below.core_plan.Going.{first_course}
use Rattle.core_flight.specs.Ledger.{now_in}
use Rattle.event_queue.specs.Listening.{registrations}
use Rattle.core_log.specs.Following.{IsFollowed}
use Rattle.core_log.specs.Record.{admit_of, open_ends}
use Rattle.core_log.proofs.Closing.{admit_quiet, done_held, done_tell, is_done, still_fits}
use Rattle.core_log.proofs.Held.{held_quiet, marked_quiet}
use Rattle.core_log.proofs.calls.let_in.Goals as goal

pub tell-requires-clause-legal : goal.tell-requires-clause-legal
tell-requires-clause-legal c =
    let a = c.args in
    let e = c.in-Done.ensures.entry in
    done_tell a.ledger.now c.let_in.new.self a.listeners.now.listeners (admit_of a.by.number a.who a.call.now a.boot ∷ []) a.by.number (starved e.0 (first_course (now_in a.ledger.now).state a.call.now a.boot)) c.in-Done.reply
    c.requires.held (admit_quiet a.by.number a.who a.call.now a.boot) e.1 c.settled.ensures.lost

pub returns-in-Done-clause-entry : goal.returns-in-Done-clause-entry
returns-in-Done-clause-entry c =
    let a = c.args in
    let e = c.in-Done.ensures.entry in
    let by : IsFollowed c.let_in.new.self c.tell.new.ledger a.listeners.now.listeners c.tell.new.listeners.listeners =
    record { history = c.tell.ensures.history; course = c.tell.ensures.course; listeners = c.tell.ensures.listeners; spare = c.tell.ensures.spare; legal = c.tell.ensures.settled } in (
      e.0,
      is_done a.ledger.now c.let_in.new.self c.tell.new.ledger a.listeners.now.listeners c.tell.new.listeners.listeners (admit_of a.by.number a.who a.call.now a.boot ∷ []) a.by.number
          (starved e.0 (first_course (now_in a.ledger.now).state a.call.now a.boot)) c.in-Done.reply c.requires.held (admit_quiet a.by.number a.who a.call.now a.boot) e.1 e.2 c.settled.ensures.lost by,
    )

pub returns-in-Done-clause-held : goal.returns-in-Done-clause-held
returns-in-Done-clause-held c =
    let a = c.args in
    let e = c.in-Done.ensures.entry in
    let by : IsFollowed c.let_in.new.self c.tell.new.ledger a.listeners.now.listeners c.tell.new.listeners.listeners =
    record { history = c.tell.ensures.history; course = c.tell.ensures.course; listeners = c.tell.ensures.listeners; spare = c.tell.ensures.spare; legal = c.tell.ensures.settled } in
    done_held a.ledger.now c.let_in.new.self c.tell.new.ledger a.listeners.now.listeners c.tell.new.listeners.listeners (admit_of a.by.number a.who a.call.now a.boot ∷ []) a.by.number
    (starved e.0 (first_course (now_in a.ledger.now).state a.call.now a.boot)) c.in-Done.reply c.requires.held (admit_quiet a.by.number a.who a.call.now a.boot) e.1 c.settled.ensures.lost
    (still_fits 3 (open_ends (registrations a.listeners.now.listeners)) a.ledger.now.spare c.let_in.new.self.spare c.requires.room c.let_in.ensures.spare) by

pub returns-in-Away-clause-entry : goal.returns-in-Away-clause-entry
returns-in-Away-clause-entry c =
    let a = c.args in
    let e = c.in-Away.ensures.entry in (
      e.0,
      record {
        marked =
            marked_quiet a.ledger.now c.let_in.new.self a.listeners.now.listeners (admit_of a.by.number a.who a.call.now a.boot ∷ []) c.requires.held (admit_quiet a.by.number a.who a.call.now a.boot) e.1.stays
            c.settled-in-Away.ensures.legal;
        listeners = refl;
        away = e.1.away;
        asks = e.1.asks;
      },
    )

pub returns-in-Away-clause-held : goal.returns-in-Away-clause-held
returns-in-Away-clause-held c =
    let a = c.args in
    let e = c.in-Away.ensures.entry in
    held_quiet a.ledger.now c.let_in.new.self a.listeners.now.listeners (admit_of a.by.number a.who a.call.now a.boot ∷ []) c.requires.held (admit_quiet a.by.number a.who a.call.now a.boot) e.1.stays
    (still_fits 3 (open_ends (registrations a.listeners.now.listeners)) a.ledger.now.spare c.let_in.new.self.spare c.requires.room c.let_in.ensures.spare)

use Rattle.std.proofs.Common.{refl}
use Rattle.core_flight.specs.Below.core_plan.Starving.{starved}
use Rattle.core_flight.specs.Ledger.{now_in}
use Rattle.core_flight.specs.Operations.{nested_in}
use Rattle.event_queue.specs.Listening.{registrations}
use Rattle.core_log.specs.Following.{IsFollowed}
use Rattle.core_log.specs.Record.{open_ends}
use Rattle.core_log.proofs.Closing.{still_fits}
use Rattle.core_log.proofs.Held.{held_quiet, marked_quiet}
use Rattle.core_log.proofs.Phasing.{is_phased, nested_quiet, phase_held, phase_tell}
use Rattle.core_log.proofs.operations.phase.Goals as goal

pub tell-requires-clause-legal : goal.tell-requires-clause-legal
tell-requires-clause-legal c =
    let a = c.args in
    let s = now_in a.ledger.now in
    let e = c.in-Phased.ensures.phased in
    phase_tell a.ledger.now c.phase.new.self a.listeners.now.listeners (nested_in s s.operation a.by.number a.who) a.by.number (starved e.2 e.0) c.in-Phased.step c.requires.held
    (nested_quiet s s.operation a.by.number a.who) e.3 c.settled.ensures.lost

pub returns-in-Phased-clause-phased : goal.returns-in-Phased-clause-phased
returns-in-Phased-clause-phased c =
    let a = c.args in
    let s = now_in a.ledger.now in
    let e = c.in-Phased.ensures.phased in
    let by : IsFollowed c.phase.new.self c.tell.new.ledger a.listeners.now.listeners c.tell.new.listeners.listeners =
    record { history = c.tell.ensures.history; course = c.tell.ensures.course; listeners = c.tell.ensures.listeners; spare = c.tell.ensures.spare; legal = c.tell.ensures.settled } in (
      e.0,
      e.1,
      e.2,
      is_phased a.ledger.now c.phase.new.self c.tell.new.ledger a.listeners.now.listeners c.tell.new.listeners.listeners (nested_in s s.operation a.by.number a.who) a.by.number (starved e.2 e.0)
          c.in-Phased.step c.requires.held (nested_quiet s s.operation a.by.number a.who) e.3 e.4 c.settled.ensures.lost by,
    )

pub returns-in-Phased-clause-held : goal.returns-in-Phased-clause-held
returns-in-Phased-clause-held c =
    let a = c.args in
    let s = now_in a.ledger.now in
    let e = c.in-Phased.ensures.phased in
    let by : IsFollowed c.phase.new.self c.tell.new.ledger a.listeners.now.listeners c.tell.new.listeners.listeners =
    record { history = c.tell.ensures.history; course = c.tell.ensures.course; listeners = c.tell.ensures.listeners; spare = c.tell.ensures.spare; legal = c.tell.ensures.settled } in
    phase_held a.ledger.now c.phase.new.self c.tell.new.ledger a.listeners.now.listeners c.tell.new.listeners.listeners (nested_in s s.operation a.by.number a.who) a.by.number (starved e.2 e.0)
    c.in-Phased.step c.requires.held (nested_quiet s s.operation a.by.number a.who) e.3 c.settled.ensures.lost
    (still_fits 3 (open_ends (registrations a.listeners.now.listeners)) a.ledger.now.spare c.phase.new.self.spare c.requires.room c.phase.ensures.spare) by

pub returns-in-Away-clause-phased : goal.returns-in-Away-clause-phased
returns-in-Away-clause-phased c =
    let a = c.args in
    let s = now_in a.ledger.now in
    let e = c.in-Away.ensures.phased in (
      e.0,
      e.1,
      e.2,
      record {
        marked =
            marked_quiet a.ledger.now c.phase.new.self a.listeners.now.listeners (nested_in s s.operation a.by.number a.who) c.requires.held (nested_quiet s s.operation a.by.number a.who) e.3.stays
            c.settled-in-Away.ensures.legal;
        listeners = refl;
        away = e.3.away;
        asks = e.3.asks;
      },
    )

pub returns-in-Away-clause-held : goal.returns-in-Away-clause-held
returns-in-Away-clause-held c =
    let a = c.args in
    let s = now_in a.ledger.now in
    let e = c.in-Away.ensures.phased in
    held_quiet a.ledger.now c.phase.new.self a.listeners.now.listeners (nested_in s s.operation a.by.number a.who) c.requires.held (nested_quiet s s.operation a.by.number a.who) e.3.stays
    (still_fits 3 (open_ends (registrations a.listeners.now.listeners)) a.ledger.now.spare c.phase.new.self.spare c.requires.room c.phase.ensures.spare)

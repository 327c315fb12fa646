use Rattle.event_queue.specs.Listening.{registrations}
use Rattle.core_log.specs.Following.{IsFollowed}
use Rattle.core_log.specs.Record.{open_ends}
use Rattle.core_log.proofs.Closing.{away_held, back_away, back_done, back_held, back_tell, still_fits}
use Rattle.core_log.proofs.Phasing.{back_phase_held, back_phase_tell, back_phased}
use Rattle.core_log.proofs.calls.back.Goals as goal

pub tell-requires-clause-legal : goal.tell-requires-clause-legal
tell-requires-clause-legal c =
    let a = c.args in
    back_tell a.ledger.now.course a.ledger.now c.back.new.self a.listeners.now.listeners a.by.number a.answer c.in-Done.reply c.requires.held c.in-Done.ensures.back c.settled.ensures.lost

pub returns-in-Done-clause-back : goal.returns-in-Done-clause-back
returns-in-Done-clause-back c =
    let a = c.args in
    let by : IsFollowed c.back.new.self c.tell.new.ledger a.listeners.now.listeners c.tell.new.listeners.listeners =
    record { history = c.tell.ensures.history; course = c.tell.ensures.course; listeners = c.tell.ensures.listeners; spare = c.tell.ensures.spare; legal = c.tell.ensures.settled } in
    back_done a.ledger.now.course a.ledger.now c.back.new.self c.tell.new.ledger a.listeners.now.listeners c.tell.new.listeners.listeners a.by.number a.answer c.in-Done.reply c.requires.held
    c.in-Done.ensures.back c.settled.ensures.lost by

pub returns-in-Done-clause-held : goal.returns-in-Done-clause-held
returns-in-Done-clause-held c =
    let a = c.args in
    let by : IsFollowed c.back.new.self c.tell.new.ledger a.listeners.now.listeners c.tell.new.listeners.listeners =
    record { history = c.tell.ensures.history; course = c.tell.ensures.course; listeners = c.tell.ensures.listeners; spare = c.tell.ensures.spare; legal = c.tell.ensures.settled } in
    back_held a.ledger.now.course a.ledger.now c.back.new.self c.tell.new.ledger a.listeners.now.listeners c.tell.new.listeners.listeners a.by.number a.answer c.in-Done.reply c.requires.held
    c.in-Done.ensures.back c.settled.ensures.lost
    (still_fits 2 (open_ends (registrations a.listeners.now.listeners)) a.ledger.now.spare c.back.new.self.spare c.requires.room c.back.ensures.spare) by

pub returns-in-Away-clause-back : goal.returns-in-Away-clause-back
returns-in-Away-clause-back c =
    let a = c.args in
    back_away a.ledger.now.course a.ledger.now c.back.new.self a.listeners.now.listeners a.by.number a.answer c.in-Away.ask c.requires.held c.in-Away.ensures.back c.settled-in-Away.ensures.legal

pub returns-in-Away-clause-held : goal.returns-in-Away-clause-held
returns-in-Away-clause-held c =
    let a = c.args in
    away_held a.ledger.now.course a.ledger.now c.back.new.self a.listeners.now.listeners a.by.number a.answer c.in-Away.ask c.requires.held c.in-Away.ensures.back
    (still_fits 2 (open_ends (registrations a.listeners.now.listeners)) a.ledger.now.spare c.back.new.self.spare c.requires.room c.back.ensures.spare)

pub tell-requires-in-Phased-clause-legal : goal.tell-requires-in-Phased-clause-legal
tell-requires-in-Phased-clause-legal c =
    let a = c.args in
    back_phase_tell a.ledger.now.course a.ledger.now c.back.new.self a.listeners.now.listeners a.by.number a.answer c.in-Phased.step c.requires.held c.in-Phased.ensures.back c.settled-in-Phased.ensures.lost

pub returns-in-Phased-clause-back : goal.returns-in-Phased-clause-back
returns-in-Phased-clause-back c =
    let a = c.args in
    let by : IsFollowed c.back.new.self c.tell-in-Phased.new.ledger a.listeners.now.listeners c.tell-in-Phased.new.listeners.listeners =
    record { history = c.tell-in-Phased.ensures.history; course = c.tell-in-Phased.ensures.course; listeners = c.tell-in-Phased.ensures.listeners; spare = c.tell-in-Phased.ensures.spare; legal = c.tell-in-Phased.ensures.settled } in
    back_phased a.ledger.now.course a.ledger.now c.back.new.self c.tell-in-Phased.new.ledger a.listeners.now.listeners c.tell-in-Phased.new.listeners.listeners a.by.number a.answer c.in-Phased.step c.requires.held
    c.in-Phased.ensures.back c.settled-in-Phased.ensures.lost by

pub returns-in-Phased-clause-held : goal.returns-in-Phased-clause-held
returns-in-Phased-clause-held c =
    let a = c.args in
    let by : IsFollowed c.back.new.self c.tell-in-Phased.new.ledger a.listeners.now.listeners c.tell-in-Phased.new.listeners.listeners =
    record { history = c.tell-in-Phased.ensures.history; course = c.tell-in-Phased.ensures.course; listeners = c.tell-in-Phased.ensures.listeners; spare = c.tell-in-Phased.ensures.spare; legal = c.tell-in-Phased.ensures.settled } in
    back_phase_held a.ledger.now.course a.ledger.now c.back.new.self c.tell-in-Phased.new.ledger a.listeners.now.listeners c.tell-in-Phased.new.listeners.listeners a.by.number a.answer c.in-Phased.step c.requires.held
    c.in-Phased.ensures.back c.settled-in-Phased.ensures.lost
    (still_fits 2 (open_ends (registrations a.listeners.now.listeners)) a.ledger.now.spare c.back.new.self.spare c.requires.room c.back.ensures.spare) by

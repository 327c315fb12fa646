use Rattle.core_flight.specs.Turn.{force_in}
use Rattle.core_flight.proofs.PhaseEntering.{due_in, due_lawful, due_same, entered_can_phase, entered_phase_turns, phase_entered}
use Rattle.core_flight.proofs.phase_turns.enter_phase.Goals as goal

pub admit-requires-clause-same : goal.admit-requires-clause-same
admit-requires-clause-same c =
    let a = c.args in
    let s = force_in a.chapter.now in
    let d = due_in s a.by.number a.who a.ready c.requires.may c.requires.ready in
    due_same s d.0 a.by.number a.who a.ready d.1

pub admit-requires-clause-lawful : goal.admit-requires-clause-lawful
admit-requires-clause-lawful c =
    let a = c.args in
    let s = force_in a.chapter.now in
    let d = due_in s a.by.number a.who a.ready c.requires.may c.requires.ready in
    due_lawful s d.0 c.again.result.number a.by.number a.who a.ready c.again.ensures d.1

pub go_on-requires-clause-rooms : goal.go_on-requires-clause-rooms
go_on-requires-clause-rooms c =
    let a = c.args in
    (due_in (force_in a.chapter.now) a.by.number a.who a.ready c.requires.may c.requires.ready).1.ready.away.rooms

pub go_on-requires-clause-can : goal.go_on-requires-clause-can
go_on-requires-clause-can c =
    let a = c.args in
    let d = due_in (force_in a.chapter.now) a.by.number a.who a.ready c.requires.may c.requires.ready in
    entered_can_phase a.chapter.now c.admit.new.self d.0 a.by a.who a.ready
    (phase_entered a.chapter.now c.admit.new.self d.0 a.by.number c.again.result a.who a.ready d.1 c.requires.lost c.requires.guest c.again.ensures c.admit.ensures.history)

pub returns-clause-turn : goal.returns-clause-turn
returns-clause-turn c =
    let a = c.args in
    let d = due_in (force_in a.chapter.now) a.by.number a.who a.ready c.requires.may c.requires.ready in
    entered_phase_turns a.chapter.now c.admit.new.self c.go_on.new.chapter d.0 a.by a.who a.ready c.go_on.result
    (phase_entered a.chapter.now c.admit.new.self d.0 a.by.number c.again.result a.who a.ready d.1 c.requires.lost c.requires.guest c.again.ensures c.admit.ensures.history)
    c.go_on.ensures.turn

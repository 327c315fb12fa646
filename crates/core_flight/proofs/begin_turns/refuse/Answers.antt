use Rattle.core_flight.specs.Turn.{force_in}
use Rattle.core_flight.proofs.Beginning.{admit_call_lawful, is_admitted, refused_can, refused_closed}
use Rattle.core_flight.proofs.begin_turns.refuse.Goals as goal

pub admit-requires-clause-lawful : goal.admit-requires-clause-lawful
admit-requires-clause-lawful c =
    let a = c.args in
    admit_call_lawful (force_in a.chapter.now) c.again.result.number a.by.number a.who c.job_of.result a.ready.own a.call.now a.boot c.again.ensures c.job_of.ensures c.requires.ready.own c.requires.lawful

pub close-requires-clause-can : goal.close-requires-clause-can
close-requires-clause-can c =
    let a = c.args in
    refused_can a.chapter.now c.admit.new.self a.by a.who a.call.now a.boot a.ready
    (is_admitted a.chapter.now c.admit.new.self a.by.number c.again.result a.who c.job_of.result a.ready.own a.call.now a.boot c.again.ensures c.job_of.ensures c.requires.ready.own c.admit.ensures.history)
    c.requires.lost c.requires.refused c.requires.ready

pub returns-clause-closed : goal.returns-clause-closed
returns-clause-closed c =
    let a = c.args in
    (refused_closed a.chapter.now c.admit.new.self c.close.new.chapter a.by a.who a.call.now a.boot a.ready c.close.result
    (is_admitted a.chapter.now c.admit.new.self a.by.number c.again.result a.who c.job_of.result a.ready.own a.call.now a.boot c.again.ensures c.job_of.ensures c.requires.ready.own c.admit.ensures.history)
    c.requires.lost c.requires.refused c.requires.ready c.close.ensures.history c.close.ensures.told).0

pub returns-clause-none : goal.returns-clause-none
returns-clause-none c =
    let a = c.args in
    (refused_closed a.chapter.now c.admit.new.self c.close.new.chapter a.by a.who a.call.now a.boot a.ready c.close.result
    (is_admitted a.chapter.now c.admit.new.self a.by.number c.again.result a.who c.job_of.result a.ready.own a.call.now a.boot c.again.ensures c.job_of.ensures c.requires.ready.own c.admit.ensures.history)
    c.requires.lost c.requires.refused c.requires.ready c.close.ensures.history c.close.ensures.told).1

use Rattle.core_flight.specs.Turn.{force_in}
use Rattle.core_flight.proofs.Beginning.{admit_call_lawful, is_admitted, take_lawful, taken_none, taken_shown}
use Rattle.core_flight.proofs.begin_turns.take_up.Goals as goal

pub admit-requires-clause-lawful : goal.admit-requires-clause-lawful
admit-requires-clause-lawful c =
    let a = c.args in
    admit_call_lawful (force_in a.chapter.now) c.again.result.number a.by.number a.who c.job_of.result a.copies.own a.call.now a.boot c.again.ensures c.job_of.ensures c.requires.copies.own c.requires.lawful

pub take_up-requires-clause-lawful : goal.take_up-requires-clause-lawful
take_up-requires-clause-lawful c =
    let a = c.args in
    take_lawful a.chapter.now c.admit.new.self a.by.number a.who a.call.now a.copies.of_operation a.boot
    (is_admitted a.chapter.now c.admit.new.self a.by.number c.again.result a.who c.job_of.result a.copies.own a.call.now a.boot c.again.ensures c.job_of.ensures c.requires.copies.own c.admit.ensures.history)
    c.requires.lost c.requires.takes c.requires.copies.of_operation

pub returns-clause-history : goal.returns-clause-history
returns-clause-history c =
    let a = c.args in
    taken_shown a.chapter.now c.admit.new.self c.take_up.new.self a.by a.who a.call.now a.copies.of_operation a.boot
    (is_admitted a.chapter.now c.admit.new.self a.by.number c.again.result a.who c.job_of.result a.copies.own a.call.now a.boot c.again.ensures c.job_of.ensures c.requires.copies.own c.admit.ensures.history)
    c.requires.copies.of_operation c.take_up.ensures.history

pub returns-clause-none : goal.returns-clause-none
returns-clause-none c =
    let a = c.args in
    taken_none a.chapter.now c.admit.new.self c.take_up.new.self a.by a.who a.call.now a.copies.of_operation a.boot
    (is_admitted a.chapter.now c.admit.new.self a.by.number c.again.result a.who c.job_of.result a.copies.own a.call.now a.boot c.again.ensures c.job_of.ensures c.requires.copies.own c.admit.ensures.history)
    c.requires.takes c.take_up.ensures.history

use Rattle.core_flight.specs.Turn.{force_in}
use Rattle.core_flight.proofs.Beginning.{admit_lawful, start_lawful, started_none, started_shown}
use Rattle.core_flight.proofs.begin_turns.begin.Goals as goal

pub begin-requires-clause-lawful : goal.begin-requires-clause-lawful
begin-requires-clause-lawful c =
    let a = c.args in
    admit_lawful (force_in a.chapter.now) c.again.result.number a.by.number a.who c.job_of.result a.call.now a.boot c.again.ensures c.job_of.ensures c.requires.lawful

pub begin-requires-clause-starts : goal.begin-requires-clause-starts
begin-requires-clause-starts c =
    let a = c.args in
    start_lawful (force_in a.chapter.now) c.again.result.number a.by.number a.who c.job_of.result a.call.now a.boot c.again.ensures c.job_of.ensures c.requires.lost c.requires.lawful c.requires.goes

pub returns-clause-history : goal.returns-clause-history
returns-clause-history c =
    let a = c.args in
    started_shown a.chapter.now c.begin.new.self c.again.result a.by a.who c.job_of.result a.call.now a.boot c.begin.result c.again.ensures c.job_of.ensures c.begin.ensures.history

pub returns-clause-none : goal.returns-clause-none
returns-clause-none c =
    let a = c.args in
    started_none a.chapter.now c.begin.new.self c.again.result a.by a.who c.job_of.result a.call.now a.boot c.begin.result c.begin.ensures.history

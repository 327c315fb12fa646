use Rattle.std.proofs.Common.{sym, subst}
use Rattle.domain_spec.specs.declared.mark.Mark.TheVariants as mark
use Rattle.domain_spec.specs.Call.{job_of}
use Rattle.domain_spec.specs.Legal.{IsLawful}
use Rattle.core_flight.specs.Ledger.{Ledgered, LetsIn, now_in}
use Rattle.core_flight.specs.declared.ledger.Entry.TheVariants as entry
use Rattle.core_flight.proofs.Ledgers.{is_lawful, let_in_away, let_in_done, seen}
use Rattle.core_flight.proofs.ledger.Ledger.let_in.Goals as goal

pub enter-requires-clause-lawful : goal.enter-requires-clause-lawful
enter-requires-clause-lawful c =
    let a = c.args in
    let i = c.self.inside in
    let m = mark.Admit a.by.number a.who (job_of a.call.now) a.call.now a.boot in
    is_lawful i.chapter i.away m (subst (λ (v : Ledgered). IsLawful (now_in v) m) (sym c.self.view_is) c.requires.lawful)

pub returns-in-Away-clause-entry : goal.returns-in-Away-clause-entry
returns-in-Away-clause-entry c =
    let a = c.args in
    let i = c.self.inside in
    subst (λ (v : Ledgered). LetsIn a.by.number a.who a.call.now a.boot v (seen c.enter.new.chapter c.set.new.slot) (entry.Away c.in-Away.ask)) c.self.view_is
    (let_in_away i.chapter c.enter.new.chapter i.away c.set.new.slot a.by.number a.who a.call.now a.boot c.in-Away.away c.in-Away.ask c.set.ensures c.in-Away.ensures.turn)

pub returns-in-Done-clause-entry : goal.returns-in-Done-clause-entry
returns-in-Done-clause-entry c =
    let a = c.args in
    let i = c.self.inside in
    subst (λ (v : Ledgered). LetsIn a.by.number a.who a.call.now a.boot v (seen c.enter.new.chapter c.set-in-Done.new.slot) (entry.Done c.in-Done.reply)) c.self.view_is
    (let_in_done i.chapter c.enter.new.chapter i.away c.set-in-Done.new.slot a.by.number a.who a.call.now a.boot c.in-Done.reply c.set-in-Done.ensures c.in-Done.ensures.turn)

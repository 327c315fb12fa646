use Rattle.std.proofs.Common.{◌≡◌, true, false, sym, ◌∙◌, subst}
use Rattle.domain_spec.specs.declared.mark.Mark.TheVariants as mark
use Rattle.domain_spec.specs.Call.{job_of}
use Rattle.domain_spec.specs.Legal.{IsLawful}
use Rattle.domain_spec.specs.TakeUp.{takes_it_up}
use Rattle.core_flight.specs.Ledger.{Ledgered, now_in}
use Rattle.core_flight.specs.Operations.{TakesUp}
use Rattle.core_flight.specs.Turn.{force_in}
use Rattle.core_flight.specs.declared.ledger.Begun.TheVariants as begun
use Rattle.core_flight.proofs.Beginning.{taken_done, taken_goes}
use Rattle.core_flight.proofs.Ledgers.{is_lawful, seen}
use Rattle.core_flight.proofs.ledger.Ledger.take_up.Goals as goal

pub take_up-requires-clause-lawful : goal.take_up-requires-clause-lawful
take_up-requires-clause-lawful c =
    let a = c.args in
    let i = c.self.inside in
    let m = mark.Admit a.by.number a.who (job_of a.call.now) a.call.now a.boot in
    is_lawful i.chapter i.away m (subst (λ (v : Ledgered). IsLawful (now_in v) m) (sym c.self.view_is) c.requires.lawful)

pub returns-then-takes_it_up-clause-begun : goal.returns-then-takes_it_up-clause-begun
returns-then-takes_it_up-clause-begun c =
    let a = c.args in
    let i = c.self.inside in
    let takes : takes_it_up (force_in i.chapter) a.call.now a.boot ≡ true = sym c.takes_it_up.ensures ∙ c.if-takes_it_up.true in
    subst (λ (v : Ledgered). TakesUp a.by.number a.who a.call.now a.boot v (seen c.take_up.new.chapter c.set.new.slot) begun.GoesOn) c.self.view_is
    (taken_goes i.chapter c.take_up.new.chapter i.away c.set.new.slot a.by.number a.who a.call.now a.boot c.set.ensures takes c.take_up.ensures.history)

pub refuse-reply-requires-clause-lawful : goal.refuse-reply-requires-clause-lawful
refuse-reply-requires-clause-lawful c =
    let a = c.args in
    let i = c.self.inside in
    let m = mark.Admit a.by.number a.who (job_of a.call.now) a.call.now a.boot in
    is_lawful i.chapter i.away m (subst (λ (v : Ledgered). IsLawful (now_in v) m) (sym c.self.view_is) c.requires.lawful)

pub returns-clause-begun : goal.returns-clause-begun
returns-clause-begun c =
    let a = c.args in
    let i = c.self.inside in
    let takes : takes_it_up (force_in i.chapter) a.call.now a.boot ≡ false = sym c.takes_it_up.ensures ∙ c.if-takes_it_up.false in
    subst (λ (v : Ledgered). TakesUp a.by.number a.who a.call.now a.boot v (seen c.refuse-reply.new.chapter c.set-2.new.slot) (begun.Done c.refuse-reply.result)) c.self.view_is
    (taken_done i.chapter c.refuse-reply.new.chapter i.away c.set-2.new.slot a.by.number a.who a.call.now a.boot c.refuse-reply.result c.set-2.ensures takes c.refuse-reply.ensures.closed)

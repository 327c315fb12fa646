use Rattle.std.proofs.Common.{◌≡◌, true, false, sym, ap, ◌∙◌, subst}
use Rattle.domain_spec.specs.Types.{State}
use Rattle.domain_spec.specs.declared.mark.Mark.TheVariants as mark
use Rattle.domain_spec.specs.Call.{job_of}
use Rattle.domain_spec.specs.Legal.{IsLawful}
use Rattle.domain_spec.specs.Sequential.{goes_on_as_operation}
use Rattle.core_flight.specs.Ledger.{Ledgered, now_in}
use Rattle.core_flight.specs.Operations.{Begins}
use Rattle.core_flight.specs.Turn.{force_in}
use Rattle.core_flight.specs.declared.ledger.Begun.TheVariants as begun
use Rattle.core_flight.proofs.Beginning.{begun_done, begun_goes}
use Rattle.core_flight.proofs.Ledgers.{is_lawful, seen}
use Rattle.core_flight.proofs.ledger.Ledger.begin.Goals as goal

pub begin-requires-clause-lawful : goal.begin-requires-clause-lawful
begin-requires-clause-lawful c =
    let a = c.args in
    let i = c.self.inside in
    let m = mark.Admit a.by.number a.who (job_of a.call.now) a.call.now a.boot in
    is_lawful i.chapter i.away m (subst (λ (v : Ledgered). IsLawful (now_in v) m) (sym c.self.view_is) c.requires.lawful)

pub returns-in-Ok-clause-begun : goal.returns-in-Ok-clause-begun
returns-in-Ok-clause-begun c =
    let a = c.args in
    let i = c.self.inside in
    let goes : goes_on_as_operation (force_in i.chapter).state a.call.now a.boot ≡ true =
    ap (λ (s : State). goes_on_as_operation s a.call.now a.boot) (sym c.state.ensures.state) ∙ sym c.goes_on.ensures ∙ c.if-goes_on.true in
    subst (λ (v : Ledgered). Begins a.by.number a.who a.call.now a.boot v (seen c.begin.new.chapter c.set.new.slot) begun.GoesOn) c.self.view_is
    (begun_goes i.chapter c.begin.new.chapter i.away c.set.new.slot a.by.number a.who a.call.now a.boot c.set.ensures goes c.in-Ok.ensures.history)

pub refuse-reply-requires-clause-lawful : goal.refuse-reply-requires-clause-lawful
refuse-reply-requires-clause-lawful c =
    let a = c.args in
    let i = c.self.inside in
    let m = mark.Admit a.by.number a.who (job_of a.call.now) a.call.now a.boot in
    is_lawful i.chapter i.away m (subst (λ (v : Ledgered). IsLawful (now_in v) m) (sym c.self.view_is) c.requires.lawful)

pub returns-clause-begun : goal.returns-clause-begun
returns-clause-begun c =
    let a = c.args in
    let i = c.self.inside in
    let goes : goes_on_as_operation (force_in i.chapter).state a.call.now a.boot ≡ false =
    ap (λ (s : State). goes_on_as_operation s a.call.now a.boot) (sym c.state.ensures.state) ∙ sym c.goes_on.ensures ∙ c.if-goes_on.false in
    subst (λ (v : Ledgered). Begins a.by.number a.who a.call.now a.boot v (seen c.refuse-reply.new.chapter c.set-2.new.slot) (begun.Done c.refuse-reply.result)) c.self.view_is
    (begun_done i.chapter c.refuse-reply.new.chapter i.away c.set-2.new.slot a.by.number a.who a.call.now a.boot c.refuse-reply.result c.set-2.ensures goes c.refuse-reply.ensures.closed)

use Rattle.std.proofs.Common.{subst}
use Rattle.net_core.specs.Answers.{LeaseTakesEffect}
use Rattle.net_core.proofs.Calling.{kept-leased, book-leased}
use Rattle.net_core.proofs.book.NetBook.lease.Goals as goal

pub invariant_of-self : goal.invariant_of-self
invariant_of-self g c = kept-leased g.number c.args.name.now c.args.mac c.lease-leased.result c.self.inside.table c.lease-leased.new.self c.self.inside.chronicle c.mark_lease.new.chronicle c.self.invariant
    (subst (λ name. LeaseTakesEffect name c.args.mac c.lease-leased.result c.self.inside.table c.lease-leased.new.self) c.as_bytes.ensures c.lease-leased.ensures.effect) c.mark_lease.ensures

pub returns : goal.returns
returns g c = book-leased c.self.inside.table c.self.inside.chronicle c.args.self.now c.self.invariant c.self.view_is g.number c.args.name.now c.as_bytes.result.now c.args.mac c.lease-leased.result c.mark_lease.new.chronicle c.as_bytes.ensures c.lease-leased.ensures.answer c.mark_lease.ensures

use Rattle.book_spec.specs.declared.pool_book.PoolCall.TheVariants as call
use Rattle.pool_core.proofs.Calling.{kept-tested, book-may}
use Rattle.pool_core.proofs.book.PoolBook.may_undefine.Goals as goal

pub invariant_of-self : goal.invariant_of-self
invariant_of-self g c = kept-tested g.number (call.Undefine c.args.uuid) c.may_undefine-tested.result c.self.inside.table c.self.inside.chronicle c.mark_refusal.new.chronicle c.self.invariant c.mark_refusal.ensures

pub returns : goal.returns
returns g c = book-may c.self.inside.table c.self.inside.chronicle c.args.self.now c.self.invariant c.self.view_is g.number (call.Undefine c.args.uuid) c.may_undefine-tested.result c.plain.result c.mark_refusal.new.chronicle c.plain.ensures c.may_undefine-tested.ensures c.mark_refusal.ensures

use Rattle.book_spec.specs.declared.pool_book.PoolCall.TheVariants as call
use Rattle.pool_core.proofs.Calling.{kept-tested, book-may}
use Rattle.pool_core.proofs.book.PoolBook.may_autostart.Goals as goal

pub invariant_of-self : goal.invariant_of-self
invariant_of-self g c = kept-tested g.number (call.Autostart c.args.uuid c.args.on) c.may_change-tested.result c.self.inside.table c.self.inside.chronicle c.mark_autostart.new.chronicle c.self.invariant c.mark_autostart.ensures

pub returns : goal.returns
returns g c = book-may c.self.inside.table c.self.inside.chronicle c.args.self.now c.self.invariant c.self.view_is g.number (call.Autostart c.args.uuid c.args.on) c.may_change-tested.result c.plain.result c.mark_autostart.new.chronicle c.plain.ensures (c.may_change-tested.ensures c.args.on) c.mark_autostart.ensures

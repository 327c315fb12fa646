use Rattle.book_spec.specs.declared.pool_book.PoolCall.TheVariants as call
use Rattle.pool_core.proofs.Calling.{kept-called, book-called}
use Rattle.pool_core.proofs.book.PoolBook.drop_volume.Goals as goal

pub invariant_of-self : goal.invariant_of-self
invariant_of-self g c = kept-called g.number (call.DropVolume c.args.pool c.args.name.now) c.drop_volume-deleted.result c.self.inside.table c.drop_volume-deleted.new.self c.self.inside.chronicle c.mark_deleted.new.chronicle c.self.invariant c.drop_volume-deleted.ensures.effect c.mark_deleted.ensures

pub returns : goal.returns
returns g c = book-called c.self.inside.table c.self.inside.chronicle c.args.self.now c.self.invariant c.self.view_is g.number (call.DropVolume c.args.pool c.args.name.now) c.drop_volume-deleted.result c.plain.result c.mark_deleted.new.chronicle c.plain.ensures c.drop_volume-deleted.ensures.answer c.mark_deleted.ensures

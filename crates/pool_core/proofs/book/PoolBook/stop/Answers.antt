use Rattle.book_spec.specs.declared.pool_book.PoolCall.TheVariants as call
use Rattle.pool_core.proofs.Calling.{kept-called, book-called}
use Rattle.pool_core.proofs.book.PoolBook.stop.Goals as goal

pub invariant_of-self : goal.invariant_of-self
invariant_of-self g c = kept-called g.number (call.Stop c.args.uuid) c.stop-stopped.result c.self.inside.table c.stop-stopped.new.self c.self.inside.chronicle c.mark_uuid.new.chronicle c.self.invariant c.stop-stopped.ensures.effect c.mark_uuid.ensures

pub returns : goal.returns
returns g c = book-called c.self.inside.table c.self.inside.chronicle c.args.self.now c.self.invariant c.self.view_is g.number (call.Stop c.args.uuid) c.stop-stopped.result c.plain.result c.mark_uuid.new.chronicle c.plain.ensures c.stop-stopped.ensures.answer c.mark_uuid.ensures

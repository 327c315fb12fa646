use Rattle.book_spec.specs.declared.pool_book.PoolCall.TheVariants as call
use Rattle.pool_core.specs.Marks.{tested}
use Rattle.pool_core.proofs.book.PoolBook.drop_volume.Given as goal

abbrev pub ghost-mark_deleted : goal.ghost-mark_deleted
ghost-mark_deleted g a = record { number = g.number; call = call.DropVolume a._pool a._name.now; answer = tested a.tested.now }

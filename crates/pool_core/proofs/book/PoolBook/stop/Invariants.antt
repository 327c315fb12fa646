use Rattle.book_spec.specs.declared.pool_book.PoolCall.TheVariants as call
use Rattle.pool_core.specs.Marks.{tested}
use Rattle.pool_core.proofs.book.PoolBook.stop.Given as goal

abbrev pub ghost-mark_uuid : goal.ghost-mark_uuid
ghost-mark_uuid g a = record { number = g.number; call = call.Stop a._uuid; answer = tested a.tested.now }

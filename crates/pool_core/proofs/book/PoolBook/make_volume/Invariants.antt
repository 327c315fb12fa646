use Rattle.book_spec.specs.declared.pool_book.PoolCall.TheVariants as call
use Rattle.pool_core.specs.Marks.{tested}
use Rattle.pool_core.proofs.book.PoolBook.make_volume.Given as goal

abbrev pub ghost-mark_made : goal.ghost-mark_made
ghost-mark_made g a = record { number = g.number; call = call.MakeVolume a._pool a._def.now.value; answer = tested a.tested.now }

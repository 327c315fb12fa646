use Rattle.book_spec.specs.declared.pool_book.PoolCall.TheVariants as call
use Rattle.pool_core.specs.Marks.{tested}
use Rattle.pool_core.proofs.book.PoolBook.may_autostart.Given as goal

abbrev pub ghost-mark_autostart : goal.ghost-mark_autostart
ghost-mark_autostart g a = record { number = g.number; call = call.Autostart a._uuid a._on; answer = tested a.tested.now }

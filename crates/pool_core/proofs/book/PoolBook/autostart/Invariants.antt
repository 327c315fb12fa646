use Rattle.book_spec.specs.declared.pool_book.PoolCall.TheVariants as call
use Rattle.book_spec.specs.declared.pool_book.PoolAnswer.TheVariants.{Done}
use Rattle.pool_core.proofs.book.PoolBook.autostart.Given as goal

abbrev pub ghost-mark_autostart_done : goal.ghost-mark_autostart_done
ghost-mark_autostart_done g a = record { number = g.number; call = call.Autostart a._uuid a._on; answer = Done }

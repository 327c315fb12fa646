use Rattle.book_spec.specs.declared.pool_book.PoolCall.TheVariants as call
use Rattle.book_spec.specs.declared.pool_book.PoolAnswer.TheVariants.{Done}
use Rattle.pool_core.proofs.book.PoolBook.undefine.Given as goal

abbrev pub ghost-mark_done : goal.ghost-mark_done
ghost-mark_done g a = record { number = g.number; call = call.Undefine a._uuid; answer = Done }

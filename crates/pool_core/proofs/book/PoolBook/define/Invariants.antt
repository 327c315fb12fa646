use Rattle.book_spec.specs.declared.pool_book.PoolCall.TheVariants as call
use Rattle.book_spec.specs.declared.pool_book.PoolAnswer.TheVariants.{Done}
use Rattle.pool_core.proofs.book.PoolBook.define.Given as goal

abbrev pub ghost-mark_def_done : goal.ghost-mark_def_done
ghost-mark_def_done g a = record { number = g.number; call = call.Define a._def.now; answer = Done }

use Rattle.book_spec.specs.declared.pool_book.PoolAnswer.TheVariants.{Refused}
use Rattle.pool_core.proofs.book.PoolBook.refuse.Given as goal

abbrev pub ghost-mark_refused : goal.ghost-mark_refused
ghost-mark_refused g a = record { number = g.asked.0; call = g.asked.1; answer = Refused a._refusal.now }

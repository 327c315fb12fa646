use Rattle.book_spec.specs.declared.pool_book.PoolCall.TheVariants as call
use Rattle.pool_core.specs.Marks.{tested}
use Rattle.pool_core.proofs.book.PoolBook.may_define.Given as goal

abbrev pub ghost-mark_def : goal.ghost-mark_def
ghost-mark_def g a = record { number = g.number; call = call.Define a._def.now; answer = tested a.tested.now }

use Rattle.book_spec.specs.declared.pool_book.PoolCall.TheVariants as call
use Rattle.pool_core.specs.Marks.{tested}
use Rattle.pool_core.proofs.book.PoolBook.may_undefine.Given as goal

abbrev pub ghost-mark_refusal : goal.ghost-mark_refusal
ghost-mark_refusal g a = record { number = g.number; call = call.Undefine a._uuid; answer = tested a.tested.now }

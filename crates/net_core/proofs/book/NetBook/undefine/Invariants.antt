use Rattle.book_spec.specs.declared.book.NetCall.TheVariants as call
use Rattle.book_spec.specs.declared.book.NetAnswer.TheVariants.{Done}
use Rattle.net_core.proofs.book.NetBook.undefine.Given as goal

abbrev pub ghost-mark_done : goal.ghost-mark_done
ghost-mark_done g a = record { number = g.number; call = call.Undefine a._uuid; answer = Done }

use Rattle.book_spec.specs.declared.book.NetCall.TheVariants as call
use Rattle.book_spec.specs.declared.book.NetAnswer.TheVariants.{Done}
use Rattle.net_core.proofs.book.NetBook.define.Given as goal

abbrev pub ghost-mark_def_done : goal.ghost-mark_def_done
ghost-mark_def_done g a = record { number = g.number; call = call.Define a._def.now; answer = Done }

use Rattle.book_spec.specs.declared.book.NetCall.TheVariants as call
use Rattle.net_core.specs.Answers.{tested}
use Rattle.net_core.proofs.book.NetBook.may_define.Given as goal

abbrev pub ghost-mark_def : goal.ghost-mark_def
ghost-mark_def g a = record { number = g.number; call = call.Define a._def.now; answer = tested a.tested.now }

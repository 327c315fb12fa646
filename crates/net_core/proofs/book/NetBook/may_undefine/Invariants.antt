use Rattle.book_spec.specs.declared.book.NetCall.TheVariants as call
use Rattle.net_core.specs.Answers.{tested}
use Rattle.net_core.proofs.book.NetBook.may_undefine.Given as goal

abbrev pub ghost-mark_refusal : goal.ghost-mark_refusal
ghost-mark_refusal g a = record { number = g.number; call = call.Undefine a._uuid; answer = tested a.tested.now }

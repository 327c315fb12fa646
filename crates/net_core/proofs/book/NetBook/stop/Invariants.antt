use Rattle.book_spec.specs.declared.book.NetCall.TheVariants as call
use Rattle.net_core.specs.Answers.{tested}
use Rattle.net_core.proofs.book.NetBook.stop.Given as goal

abbrev pub ghost-mark_uuid : goal.ghost-mark_uuid
ghost-mark_uuid g a = record { number = g.number; call = call.Stop a._uuid; answer = tested a.tested.now }

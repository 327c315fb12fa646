use Rattle.book_spec.specs.declared.book.NetCall.TheVariants as call
use Rattle.net_core.specs.Answers.{tested}
use Rattle.net_core.proofs.book.NetBook.may_autostart.Given as goal

abbrev pub ghost-mark_autostart : goal.ghost-mark_autostart
ghost-mark_autostart g a = record { number = g.number; call = call.Autostart a._uuid a._on; answer = tested a.tested.now }

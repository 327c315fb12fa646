use Rattle.book_spec.specs.declared.book.NetCall.TheVariants as call
use Rattle.book_spec.specs.declared.book.NetAnswer.TheVariants.{Done}
use Rattle.net_core.proofs.book.NetBook.autostart.Given as goal

abbrev pub ghost-mark_autostart_done : goal.ghost-mark_autostart_done
ghost-mark_autostart_done g a = record { number = g.number; call = call.Autostart a._uuid a._on; answer = Done }

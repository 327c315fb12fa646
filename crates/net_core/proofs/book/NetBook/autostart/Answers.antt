use Rattle.std.proofs.Common.{sym, subst, ◌∙◌, ◌<◌, length}
use Rattle.book_spec.specs.declared.book.NetCall.TheVariants as call
use Rattle.book_spec.specs.declared.book.NetAnswer.TheVariants.{Done}
use Rattle.net_core.proofs.Calling.{kept-done, book-done, after-autostart}
use Rattle.net_core.proofs.book.NetBook.autostart.Goals as goal

pub invariant_of-self : goal.invariant_of-self
invariant_of-self g c = kept-done (record { number = g.number; call = call.Autostart c.args.uuid c.args.on; answer = Done }) c.self.inside.table c.set_autostart.new.self c.self.inside.chronicle c.mark_autostart_done.new.chronicle c.self.invariant (subst (λ h. length h.marks < 4096) (sym c.self.view_is) c.requires.room) (c.set_autostart.ensures ∙ sym (after-autostart c.args.uuid c.args.on c.self.inside.table)) c.mark_autostart_done.ensures

pub returns-clause-called : goal.returns-clause-called
returns-clause-called g c = book-done c.self.inside.table c.self.inside.chronicle c.args.self.now c.self.invariant c.self.view_is g.number (call.Autostart c.args.uuid c.args.on) c.mark_autostart_done.new.chronicle c.requires.may c.mark_autostart_done.ensures

use Rattle.std.proofs.Common.{sym, subst, ◌<◌, length}
use Rattle.book_spec.specs.declared.book.NetAnswer.TheVariants.{Refused}
use Rattle.net_core.proofs.Calling.{kept-done, refused-same}
use Rattle.net_core.proofs.book.NetBook.refuse.Goals as goal

pub invariant_of-self : goal.invariant_of-self
invariant_of-self g c = kept-done (record { number = g.asked.0; call = g.asked.1; answer = Refused c.args.refusal }) c.self.inside.table c.self.inside.table c.self.inside.chronicle c.mark_refused.new.chronicle c.self.invariant (subst (λ h. length h.marks < 4096) (sym c.self.view_is) c.requires.1.room) (sym (refused-same g.asked.1 c.args.refusal c.self.inside.table)) c.mark_refused.ensures

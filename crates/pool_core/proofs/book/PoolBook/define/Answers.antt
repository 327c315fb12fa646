use Rattle.std.proofs.Common.{sym, subst, ◌∙◌, ◌<◌, length}
use Rattle.book_spec.specs.declared.pool_book.PoolCall.TheVariants as call
use Rattle.book_spec.specs.declared.pool_book.PoolAnswer.TheVariants.{Done}
use Rattle.pool_core.proofs.Calling.{kept-done, book-done, book-answer, after-define}
use Rattle.pool_core.proofs.book.PoolBook.define.Goals as goal

pub invariant_of-self : goal.invariant_of-self
invariant_of-self g c = kept-done (record { number = g.number; call = call.Define c.args.def; answer = Done }) c.self.inside.table c.define.new.self c.self.inside.chronicle c.mark_def_done.new.chronicle c.self.invariant (subst (λ h. length h.marks < 4096) (sym c.self.view_is) c.requires.room) (c.define.ensures ∙ sym (after-define c.args.def c.self.inside.table)) c.mark_def_done.ensures

pub returns-clause-called : goal.returns-clause-called
returns-clause-called g c = book-done c.self.inside.table c.self.inside.chronicle c.args.self.now c.self.invariant c.self.view_is g.number (call.Define c.args.def) c.mark_def_done.new.chronicle c.requires.may c.mark_def_done.ensures

pub define-requires : goal.define-requires
define-requires g c = book-answer c.self.inside.table c.self.inside.chronicle c.args.self.now c.self.invariant c.self.view_is (call.Define c.args.def) c.requires.may

use Rattle.book_spec.specs.declared.book.NetCall.TheVariants as call
use Rattle.net_core.proofs.Calling.{kept-called, book-called}
use Rattle.net_core.proofs.book.NetBook.start.Goals as goal

pub invariant_of-self : goal.invariant_of-self
invariant_of-self g c = kept-called g.number (call.Start c.args.uuid) c.start-started.result c.self.inside.table c.start-started.new.self c.self.inside.chronicle c.mark_uuid.new.chronicle c.self.invariant c.start-started.ensures.effect c.mark_uuid.ensures

pub returns : goal.returns
returns g c = book-called c.self.inside.table c.self.inside.chronicle c.args.self.now c.self.invariant c.self.view_is g.number (call.Start c.args.uuid) c.start-started.result c.plain.result c.mark_uuid.new.chronicle c.plain.ensures c.start-started.ensures.answer c.mark_uuid.ensures

use Rattle.std.proofs.Common.{subst}
use Rattle.virt_types.specs.Below.types_base.declared.storage_def.VolDef.{VolDef}
use Rattle.book_spec.specs.declared.pool_book.PoolCall.TheVariants as call
use Rattle.pool_core.specs.Marks.{Leaves, tested}
use Rattle.pool_core.proofs.Calling.{kept-called, book-called}
use Rattle.pool_core.proofs.book.PoolBook.make_volume.Goals as goal

pub invariant_of-self : goal.invariant_of-self
invariant_of-self g c =
    let left = subst (λ (def : VolDef). Leaves (record { number = g.number; call = call.MakeVolume c.args.pool def; answer = tested c.make_volume-made.result }) c.make_volume-made.result c.self.inside.chronicle c.mark_made.new.chronicle) c.of-asked.ensures c.mark_made.ensures in
    kept-called g.number (call.MakeVolume c.args.pool c.args.def) c.make_volume-made.result c.self.inside.table c.make_volume-made.new.self c.self.inside.chronicle c.mark_made.new.chronicle c.self.invariant c.make_volume-made.ensures.effect left

pub returns : goal.returns
returns g c =
    let left = subst (λ (def : VolDef). Leaves (record { number = g.number; call = call.MakeVolume c.args.pool def; answer = tested c.make_volume-made.result }) c.make_volume-made.result c.self.inside.chronicle c.mark_made.new.chronicle) c.of-asked.ensures c.mark_made.ensures in
    book-called c.self.inside.table c.self.inside.chronicle c.args.self.now c.self.invariant c.self.view_is g.number (call.MakeVolume c.args.pool c.args.def) c.make_volume-made.result c.plain.result c.mark_made.new.chronicle c.plain.ensures c.make_volume-made.ensures.answer left

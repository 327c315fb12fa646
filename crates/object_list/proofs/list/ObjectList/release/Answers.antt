use Rattle.book_spec.specs.declared.list.ListCall.TheVariants as call
use Rattle.object_list.proofs.Chronicles.{answer-release, kept-called}
use Rattle.object_list.proofs.list.ObjectList.release.Goals as goal

pub invariant_of-self : goal.invariant_of-self
invariant_of-self g c = kept-called g.number c.args.slot (call.Release c.args.slot c.args.front c.args.occupied) c.self.inside.table c.release.new.self c.self.inside.chronicle c.mark_release.new.chronicle c.self.invariant
    (answer-release c.args.slot c.args.front c.args.occupied c.self.inside.table) c.release.ensures.released c.mark_release.ensures c.release.ensures.fewer

use Rattle.std.proofs.Common.{sym, subst, ◌+◌}
use Rattle.object_list.specs.Keeping.{IsCounted}
use Rattle.object_list.proofs.Chronicles.{counted-call}
use Rattle.object_list.proofs.chronicle.Chronicle.tell.Goals as goal

pub invariant_of-self : goal.invariant_of-self
invariant_of-self g c = subst (IsCounted c.self.inside.chapter (c.self.inside.marks + 1)) (sym c.told_more-self-inside.ensures) (counted-call g.asked.0 c.self.inside.chapter c.self.inside.marks g.asked.1 c.self.inside.story.told c.self.invariant)

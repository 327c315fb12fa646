use Rattle.std.proofs.Common.{sym, subst, ◌+◌}
use Rattle.pool_core.specs.Keeping.{IsCounted}
use Rattle.pool_core.proofs.Chronicles.{counted-mark}
use Rattle.pool_core.proofs.chronicle.Chronicle.tell.Goals as goal

pub invariant_of-self : goal.invariant_of-self
invariant_of-self g c = subst (IsCounted c.self.inside.chapter (c.self.inside.marks + 1)) (sym c.told_more-self-inside.ensures) (counted-mark c.self.inside.chapter c.self.inside.marks g.mark c.self.inside.story.told c.self.invariant)

use Rattle.std.proofs.Common.{◌++◌, ◌∷◌, [], ◌∙◌, ap, arith}
use Rattle.book_spec.specs.declared.pool_book.Pool.{Pool}
use Rattle.book_spec.specs.Volumes.{allocated}
use Rattle.pool_core.proofs.VolumeSums.{allocated-more}
use Rattle.pool_core.proofs.entry.Entry.push.Goals as goal

pub overflow_add-self : goal.overflow_add-self
overflow_add-self c = omega (arith, c.self.invariant, c.requires, ap (λ (p : Pool). allocated p.volumes) c.self.view_is)

pub invariant_of-self : goal.invariant_of-self
invariant_of-self c = omega (arith, c.self.invariant, allocated-more c.self.inside.volumes.items c.args.def, ap allocated (c.push_reserved.ensures.items ∙ ap (λ vs. vs ++ c.args.def ∷ []) c.reserve.ensures.items))

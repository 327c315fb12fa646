use Rattle.std.proofs.Common.{◌<◌, ap, sym, subst, length, Some, arith}
use Rattle.book_spec.specs.Slots.{times_held}
use Rattle.book_spec.specs.declared.list.Entry.{Entry}
use Rattle.object_list.proofs.Rows.{length-fewer}
use Rattle.object_list.proofs.row.Row.release.Goals as goal

pub invariant_of-self : goal.invariant_of-self
invariant_of-self g c = omega (arith, c.self.invariant, ap length c.without-self-inside.ensures, length-fewer g.number c.self.inside.held.numbers (subst (λ (e : Entry). 0 < times_held g.number (Some e)) (sym c.self.view_is) c.requires))

pub invariant_of-self-else-is_longer : goal.invariant_of-self-else-is_longer
invariant_of-self-else-is_longer g c = omega (arith, c.self.invariant, ap length c.without-self-inside.ensures, length-fewer g.number c.self.inside.held.numbers (subst (λ (e : Entry). 0 < times_held g.number (Some e)) (sym c.self.view_is) c.requires))

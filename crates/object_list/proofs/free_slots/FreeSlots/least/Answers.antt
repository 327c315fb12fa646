use Rattle.std.proofs.Common.{sym, ◌∙◌}
use Rattle.std.proofs.lemmas.List.Quantifiers.{position-Some}
use Rattle.object_list.specs.FreeSlots.{is_set}
use Rattle.object_list.proofs.FreeBits.{least-first, none-first}
use Rattle.object_list.proofs.free_slots.FreeSlots.least.Goals as goal

pub returns-in-None-clause-none : goal.returns-in-None-clause-none
returns-in-None-clause-none c = rw (← c.self.view_is) (none-first c.self.inside.words c.self.invariant (sym c.first_set.ensures ∙ c.in-None.is))

pub lowest-requires : goal.lowest-requires
lowest-requires c = (position-Some is_set c.self.inside.words c.in-Some.place 0 (sym c.first_set.ensures ∙ c.in-Some.is)).1

pub returns-in-Some-clause-some : goal.returns-in-Some-clause-some
returns-in-Some-clause-some c = rw (← c.self.view_is) (least-first c.self.inside.words c.in-Some.place c.lowest.result c.self.invariant (sym c.first_set.ensures ∙ c.in-Some.is) c.lowest.ensures)

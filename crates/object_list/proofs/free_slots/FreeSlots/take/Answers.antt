use Rattle.object_list.proofs.FreeBits.{taken}
use Rattle.object_list.proofs.free_slots.FreeSlots.take.Goals as goal

pub returns : goal.returns
returns c = rw (← c.self.view_is) (taken c.self.inside.words c.args.slot c.self.invariant c.requires)

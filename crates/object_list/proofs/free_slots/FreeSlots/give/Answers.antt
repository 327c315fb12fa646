use Rattle.object_list.proofs.FreeBits.{given}
use Rattle.object_list.proofs.free_slots.FreeSlots.give.Goals as goal

pub returns : goal.returns
returns c = rw (← c.self.view_is) (given c.self.inside.words c.args.slot c.self.invariant c.requires)

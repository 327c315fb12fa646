-- The lowest bit that is set in the word of free slots is the least free slot.
use Rattle.hotplug_core.proofs.TakenSlots.{least_free, none_free}
use Rattle.hotplug_core.proofs.slots.free_slot.Goals as goal

pub returns-then-free-eq0 : goal.returns-then-free-eq0
returns-then-free-eq0 c = none_free c.args.slots.now c.taken_slots.result c.taken_slots.type_inv c.taken_slots.ensures c.if-free-eq0.true

pub returns-else-free-eq0 : goal.returns-else-free-eq0
returns-else-free-eq0 c = least_free c.args.slots.now c.taken_slots.result c.taken_slots.type_inv c.taken_slots.ensures c.if-free-eq0.false

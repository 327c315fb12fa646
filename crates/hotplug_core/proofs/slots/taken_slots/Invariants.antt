use Rattle.std.proofs.Common.{take}
use Rattle.hotplug_core.specs.Slots.{MarksTaken}
use Rattle.hotplug_core.proofs.slots.taken_slots.Given as goal

abbrev pub invariant-loop-slot : goal.invariant-loop-slot
invariant-loop-slot l = MarksTaken (take l.slot-index l.slots) l.word

-- Each slot marks its bit.
use Rattle.std.proofs.Common.{◌+◌, sym, subst, take}
use Rattle.hotplug_core.specs.Slots.{MarksTaken}
use Rattle.hotplug_core.proofs.TakenSlots.{marks_more, marks_same}
use Rattle.hotplug_core.proofs.slots.taken_slots.Goals as goal
use Rattle.hotplug_core.proofs.slots.taken_slots.Goals.{then-slot-lt32, else-slot-lt32}

pub loop-slot-preserved : goal.loop-slot-preserved
loop-slot-preserved c =
    let i = c.loop-slot.slot-index in
    let marks = MarksTaken (take (i + 1) c.args.slots.now) in
    elim c.if-slot-lt32.branch [
      | then-slot-lt32 w ↦ subst marks (sym w.word-is) (marks_more c.args.slots.now i c.loop-slot.word c.loop-slot-test.true w.if-slot-lt32.true c.loop-slot.invariant)
      | else-slot-lt32 w ↦ subst marks (sym w.word-is) (marks_same c.args.slots.now i c.loop-slot.word c.loop-slot-test.true w.if-slot-lt32.false c.loop-slot.invariant)
    ]

use Rattle.std.proofs.Common.{◌++◌, map, replicate, take}
use Rattle.driver_open.specs.Slots.{AreFirst, found_cell, vacant_cell}
use Rattle.driver_open.proofs.slots.make_slots.Given as goal

-- those that came have their slots
abbrev pub invariant-loop-domain : goal.invariant-loop-domain
invariant-loop-domain g l = AreFirst (map found_cell (take l.domain-index l.found)) l.slots.domains l.slots.passes

-- they all have, and then so many are vacant
abbrev pub invariant-loop : goal.invariant-loop
invariant-loop g l = AreFirst (map found_cell l.found ++ replicate l.counter vacant_cell) l.slots.domains l.slots.passes

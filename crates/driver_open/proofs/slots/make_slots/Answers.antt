use Rattle.std.proofs.Common.{arith, map}
use Rattle.driver_open.specs.Slots.{found_cell}
use Rattle.driver_open.proofs.Slotted.{all_made, found_next, vacant_more}
use Rattle.driver_open.proofs.slots.make_slots.Goals as goal

pub loop-domain-preserved : goal.loop-domain-preserved
loop-domain-preserved g c = found_next c.args.found.now c.loop-domain.domain-index c.domain-item.result c.loop-domain.slots.domains c.push_found.new.slots.domains c.loop-domain.slots.passes c.push_found.new.slots.passes c.loop-domain-test.true c.domain-item.is
    c.loop-domain.invariant c.in_ok-push_found.ensures

pub loop-preserved : goal.loop-preserved
loop-preserved g c = vacant_more (map found_cell c.args.found.now) c.loop.counter c.loop.slots.domains c.push.new.slots.domains c.loop.slots.passes c.push.new.slots.passes c.loop.invariant c.in_ok-push.ensures

pub returns : goal.returns
returns g c = all_made c.args.found.now c.loop.counter c.loop.slots.domains c.loop.slots.passes (omega (arith, c.loop-test.false)) c.loop.invariant

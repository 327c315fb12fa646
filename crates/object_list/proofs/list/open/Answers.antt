use Rattle.std.proofs.Common.{◌∙◌, sym}
use Rattle.object_list.proofs.Openings.{opened-none, next-new, next-opened}
use Rattle.object_list.proofs.list.open.Goals as goal

pub loop-slot-init : goal.loop-slot-init
loop-slot-init c = (c.in_ok-table.ensures.free ∙ sym opened-none, c.in_ok-table.ensures.most)

pub put-requires-clause-free : goal.put-requires-clause-free
put-requires-clause-free c = next-new c.args.found.now c.loop-slot.slot c.index-found-slot.result c.requires c.loop-slot-test.true c.in_ok-copy.field-0 c.opened.result c.loop-slot.table c.in_ok-copy.ensures c.opened.ensures c.index-found-slot.is c.loop-slot.invariant.0

pub loop-slot-preserved : goal.loop-slot-preserved
loop-slot-preserved c = (next-opened c.args.found.now c.loop-slot.slot c.index-found-slot.result c.requires c.loop-slot-test.true c.in_ok-copy.field-0 c.opened.result c.loop-slot.table c.in_ok-copy.ensures c.opened.ensures c.index-found-slot.is c.loop-slot.invariant.0 c.put.new.self c.in_ok-put.ensures.ok, c.in_ok-put.ensures.most)

use Rattle.book_spec.specs.declared.book.NetCall.TheVariants as call
use Rattle.book_spec.specs.NetHistory.{told_lease}
use Rattle.net_core.proofs.Turning.{asked, asked_leaves}
use Rattle.net_core.proofs.turns.lease.Goals as goal

pub returns-clause-asked : goal.returns-clause-asked
returns-clause-asked g c = asked (call.Lease c.args.name.now c.args.mac) (told_lease c.lease_in-leased.result) c.args.pass c.in-Ok.turn c.lease_in-leased.new.turn c.leave.result c.in-Ok.ensures.turn c.lease_in-leased.ensures.called c.lease_in-leased.ensures.same c.leave.ensures

pub leave-requires-clause-goes_on : goal.leave-requires-clause-goes_on
leave-requires-clause-goes_on g c = (asked_leaves (call.Lease c.args.name.now c.args.mac) (told_lease c.lease_in-leased.result) c.args.pass c.in-Ok.turn c.lease_in-leased.new.turn c.in-Ok.ensures.turn c.lease_in-leased.ensures.called c.lease_in-leased.ensures.same).1.goes_on

pub leave-requires-clause-marks : goal.leave-requires-clause-marks
leave-requires-clause-marks g c = (asked_leaves (call.Lease c.args.name.now c.args.mac) (told_lease c.lease_in-leased.result) c.args.pass c.in-Ok.turn c.lease_in-leased.new.turn c.in-Ok.ensures.turn c.lease_in-leased.ensures.called c.lease_in-leased.ensures.same).1.marks

pub leave-requires-clause-others : goal.leave-requires-clause-others
leave-requires-clause-others g c = (asked_leaves (call.Lease c.args.name.now c.args.mac) (told_lease c.lease_in-leased.result) c.args.pass c.in-Ok.turn c.lease_in-leased.new.turn c.in-Ok.ensures.turn c.lease_in-leased.ensures.called c.lease_in-leased.ensures.same).1.others

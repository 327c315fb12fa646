use Rattle.book_spec.specs.declared.book.NetCall.TheVariants as call
use Rattle.book_spec.specs.NetHistory.{told}
use Rattle.net_core.proofs.Turning.{asked, asked_leaves}
use Rattle.net_core.proofs.turns.stop.Goals as goal

pub returns-clause-asked : goal.returns-clause-asked
returns-clause-asked g c = asked (call.Stop c.args.uuid) (told c.stop_in-stopped.result) c.args.pass c.in-Ok.turn c.stop_in-stopped.new.turn c.leave.result c.in-Ok.ensures.turn c.stop_in-stopped.ensures.called c.stop_in-stopped.ensures.same c.leave.ensures

pub leave-requires-clause-goes_on : goal.leave-requires-clause-goes_on
leave-requires-clause-goes_on g c = (asked_leaves (call.Stop c.args.uuid) (told c.stop_in-stopped.result) c.args.pass c.in-Ok.turn c.stop_in-stopped.new.turn c.in-Ok.ensures.turn c.stop_in-stopped.ensures.called c.stop_in-stopped.ensures.same).1.goes_on

pub leave-requires-clause-marks : goal.leave-requires-clause-marks
leave-requires-clause-marks g c = (asked_leaves (call.Stop c.args.uuid) (told c.stop_in-stopped.result) c.args.pass c.in-Ok.turn c.stop_in-stopped.new.turn c.in-Ok.ensures.turn c.stop_in-stopped.ensures.called c.stop_in-stopped.ensures.same).1.marks

pub leave-requires-clause-others : goal.leave-requires-clause-others
leave-requires-clause-others g c = (asked_leaves (call.Stop c.args.uuid) (told c.stop_in-stopped.result) c.args.pass c.in-Ok.turn c.stop_in-stopped.new.turn c.in-Ok.ensures.turn c.stop_in-stopped.ensures.called c.stop_in-stopped.ensures.same).1.others

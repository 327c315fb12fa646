use Rattle.book_spec.specs.declared.pool_book.PoolCall.TheVariants as call
use Rattle.book_spec.specs.PoolHistory.{told}
use Rattle.pool_core.proofs.Turning.{asked, asked_leaves}
use Rattle.pool_core.proofs.turns.drop_volume.Goals as goal

pub returns-clause-asked : goal.returns-clause-asked
returns-clause-asked g c = asked (call.DropVolume c.args.pool c.args.name.now) (told c.drop_volume_in-dropped.result) c.args.pass c.in-Ok.turn c.drop_volume_in-dropped.new.turn c.leave.result c.in-Ok.ensures.turn c.drop_volume_in-dropped.ensures.called c.drop_volume_in-dropped.ensures.same c.leave.ensures

pub leave-requires-clause-goes_on : goal.leave-requires-clause-goes_on
leave-requires-clause-goes_on g c = (asked_leaves (call.DropVolume c.args.pool c.args.name.now) (told c.drop_volume_in-dropped.result) c.args.pass c.in-Ok.turn c.drop_volume_in-dropped.new.turn c.in-Ok.ensures.turn c.drop_volume_in-dropped.ensures.called c.drop_volume_in-dropped.ensures.same).1.goes_on

pub leave-requires-clause-marks : goal.leave-requires-clause-marks
leave-requires-clause-marks g c = (asked_leaves (call.DropVolume c.args.pool c.args.name.now) (told c.drop_volume_in-dropped.result) c.args.pass c.in-Ok.turn c.drop_volume_in-dropped.new.turn c.in-Ok.ensures.turn c.drop_volume_in-dropped.ensures.called c.drop_volume_in-dropped.ensures.same).1.marks

pub leave-requires-clause-others : goal.leave-requires-clause-others
leave-requires-clause-others g c = (asked_leaves (call.DropVolume c.args.pool c.args.name.now) (told c.drop_volume_in-dropped.result) c.args.pass c.in-Ok.turn c.drop_volume_in-dropped.new.turn c.in-Ok.ensures.turn c.drop_volume_in-dropped.ensures.called c.drop_volume_in-dropped.ensures.same).1.others

use Rattle.object_list.proofs.Turning.{has_released, can_release, release_leaves}
use Rattle.object_list.proofs.turns.release.Goals as goal

pub release_in-requires : goal.release_in-requires
release_in-requires g c = can_release c.args.slot c.args.pass c.in-Ok.turn c.in-Ok.ensures.turn c.requires.holds

pub returns-clause-released : goal.returns-clause-released
returns-clause-released g c = has_released c.args.slot c.args.front c.args.occupied c.args.pass c.in-Ok.turn c.release_in.new.turn c.leave.result c.in-Ok.ensures.turn c.requires.holds c.release_in.ensures.released c.release_in.ensures.same c.leave.ensures

pub leave-requires-clause-goes_on : goal.leave-requires-clause-goes_on
leave-requires-clause-goes_on g c = (release_leaves c.args.slot c.args.front c.args.occupied c.args.pass c.in-Ok.turn c.release_in.new.turn c.in-Ok.ensures.turn c.release_in.ensures.released c.release_in.ensures.same).goes_on

pub leave-requires-clause-marks : goal.leave-requires-clause-marks
leave-requires-clause-marks g c = (release_leaves c.args.slot c.args.front c.args.occupied c.args.pass c.in-Ok.turn c.release_in.new.turn c.in-Ok.ensures.turn c.release_in.ensures.released c.release_in.ensures.same).marks

pub leave-requires-clause-others : goal.leave-requires-clause-others
leave-requires-clause-others g c = (release_leaves c.args.slot c.args.front c.args.occupied c.args.pass c.in-Ok.turn c.release_in.new.turn c.in-Ok.ensures.turn c.release_in.ensures.released c.release_in.ensures.same).others

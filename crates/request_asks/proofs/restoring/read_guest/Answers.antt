use Rattle.request_asks.proofs.Turning.{has_read, may_leave}
use Rattle.request_asks.proofs.restoring.read_guest.Goals as goal

pub returns-clause-read : goal.returns-clause-read
returns-clause-read g c = has_read g.F.Files.told g.F.Files.faults c.args.name.now c.read_saved_in-saved.result c.front_in-front.result c.args.pass c.in-Ok.turn c.read_saved_in-saved.new.turn c.front_in-front.new.turn c.leave.result
    c.in-Ok.ensures.turn c.read_saved_in-saved.ensures.same c.front_in-front.ensures.same c.read_saved_in-saved.ensures.read c.front_in-front.ensures.front c.leave.ensures

pub leave-requires-clause-goes_on : goal.leave-requires-clause-goes_on
leave-requires-clause-goes_on g c = (may_leave g.F.Files.told g.F.Files.faults c.args.name.now c.read_saved_in-saved.result c.args.pass c.in-Ok.turn c.read_saved_in-saved.new.turn c.front_in-front.new.turn
    c.in-Ok.ensures.turn c.read_saved_in-saved.ensures.same c.front_in-front.ensures.same c.read_saved_in-saved.ensures.read).goes_on

pub leave-requires-clause-marks : goal.leave-requires-clause-marks
leave-requires-clause-marks g c = (may_leave g.F.Files.told g.F.Files.faults c.args.name.now c.read_saved_in-saved.result c.args.pass c.in-Ok.turn c.read_saved_in-saved.new.turn c.front_in-front.new.turn
    c.in-Ok.ensures.turn c.read_saved_in-saved.ensures.same c.front_in-front.ensures.same c.read_saved_in-saved.ensures.read).marks

pub leave-requires-clause-others : goal.leave-requires-clause-others
leave-requires-clause-others g c = (may_leave g.F.Files.told g.F.Files.faults c.args.name.now c.read_saved_in-saved.result c.args.pass c.in-Ok.turn c.read_saved_in-saved.new.turn c.front_in-front.new.turn
    c.in-Ok.ensures.turn c.read_saved_in-saved.ensures.same c.front_in-front.ensures.same c.read_saved_in-saved.ensures.read).others

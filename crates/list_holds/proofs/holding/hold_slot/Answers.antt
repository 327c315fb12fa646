use Rattle.list_holds.proofs.Placing.{has_held, leaves}
use Rattle.list_holds.proofs.holding.hold_slot.Goals as goal

pub returns-clause-held : goal.returns-clause-held
returns-clause-held g c = has_held c.args.hold.now c.hold_in-held.result c.front_in-front.result c.args.pass c.in-Ok.turn c.hold_in-held.new.turn c.front_in-front.new.turn c.leave.result
    c.in-Ok.ensures.turn c.hold_in-held.ensures.answer c.hold_in-held.ensures.marked c.hold_in-held.ensures.same c.front_in-front.ensures.chapter c.front_in-front.ensures.marks c.front_in-front.ensures.same c.leave.ensures

pub leave-requires-clause-goes_on : goal.leave-requires-clause-goes_on
leave-requires-clause-goes_on g c = (leaves c.args.hold.now c.hold_in-held.result c.args.pass c.in-Ok.turn c.hold_in-held.new.turn c.front_in-front.new.turn c.in-Ok.ensures.turn c.hold_in-held.ensures.answer c.hold_in-held.ensures.marked c.hold_in-held.ensures.same c.front_in-front.ensures.same).goes_on

pub leave-requires-clause-marks : goal.leave-requires-clause-marks
leave-requires-clause-marks g c = (leaves c.args.hold.now c.hold_in-held.result c.args.pass c.in-Ok.turn c.hold_in-held.new.turn c.front_in-front.new.turn c.in-Ok.ensures.turn c.hold_in-held.ensures.answer c.hold_in-held.ensures.marked c.hold_in-held.ensures.same c.front_in-front.ensures.same).marks

pub leave-requires-clause-others : goal.leave-requires-clause-others
leave-requires-clause-others g c = (leaves c.args.hold.now c.hold_in-held.result c.args.pass c.in-Ok.turn c.hold_in-held.new.turn c.front_in-front.new.turn c.in-Ok.ensures.turn c.hold_in-held.ensures.answer c.hold_in-held.ensures.marked c.hold_in-held.ensures.same c.front_in-front.ensures.same).others

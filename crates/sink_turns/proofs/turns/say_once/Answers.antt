use Rattle.std.proofs.Common.{Ok, Err}
use Rattle.sink_turns.specs.Saying.{SaidSo}
use Rattle.sink_turns.proofs.Turning.{has_done, may_leave}
use Rattle.sink_turns.proofs.turns.say_once.Goals as goal

pub leave-pass-requires-clause-goes_on : goal.leave-pass-requires-clause-goes_on
leave-pass-requires-clause-goes_on g c = (may_leave c.say_in-said.ensures.said.0 c.args.pass c.in-Ok.turn c.say_in-said.new.turn c.in-Ok.ensures.turn c.say_in-said.ensures.same c.say_in-said.ensures.said.1).goes_on

pub leave-pass-requires-clause-marks : goal.leave-pass-requires-clause-marks
leave-pass-requires-clause-marks g c = (may_leave c.say_in-said.ensures.said.0 c.args.pass c.in-Ok.turn c.say_in-said.new.turn c.in-Ok.ensures.turn c.say_in-said.ensures.same c.say_in-said.ensures.said.1).marks

pub returns-in-Ok-said : goal.returns-in-Ok-said
returns-in-Ok-said g c =
    let done = has_done (λ t deeds. SaidSo t c.args.message.now c.args.more (Ok tt) deeds) c.args.pass c.in-Ok.turn c.say_in-said.new.turn c.leave-pass.result c.in-Ok.ensures.turn c.say_in-said.ensures.same c.in-Ok-said.ensures.said c.leave-pass.ensures in
    record { said = done; same = done.went.same }

pub returns-in-Err-said : goal.returns-in-Err-said
returns-in-Err-said g c =
    let done = has_done (λ t deeds. SaidSo t c.args.message.now c.args.more (Err c.in-Err-said.why) deeds) c.args.pass c.in-Ok.turn c.say_in-said.new.turn c.leave-pass.result c.in-Ok.ensures.turn c.say_in-said.ensures.same c.in-Err-said.ensures.said c.leave-pass.ensures in
    record { said = done; same = done.went.same }

use Rattle.std.proofs.Common.{Ok, Err}
use Rattle.sink_turns.specs.Saying.{FlushedSo}
use Rattle.sink_turns.proofs.Turning.{has_done, may_leave}
use Rattle.sink_turns.proofs.turns.flush_once.Goals as goal

pub leave-pass-requires-clause-goes_on : goal.leave-pass-requires-clause-goes_on
leave-pass-requires-clause-goes_on g c = (may_leave c.flush_in-flushed.ensures.flushed.0 c.args.pass c.in-Ok.turn c.flush_in-flushed.new.turn c.in-Ok.ensures.turn c.flush_in-flushed.ensures.same c.flush_in-flushed.ensures.flushed.1).goes_on

pub leave-pass-requires-clause-marks : goal.leave-pass-requires-clause-marks
leave-pass-requires-clause-marks g c = (may_leave c.flush_in-flushed.ensures.flushed.0 c.args.pass c.in-Ok.turn c.flush_in-flushed.new.turn c.in-Ok.ensures.turn c.flush_in-flushed.ensures.same c.flush_in-flushed.ensures.flushed.1).marks

pub returns-in-Ok-flushed : goal.returns-in-Ok-flushed
returns-in-Ok-flushed g c =
    let done = has_done (λ t deeds. FlushedSo t (Ok tt) deeds) c.args.pass c.in-Ok.turn c.flush_in-flushed.new.turn c.leave-pass.result c.in-Ok.ensures.turn c.flush_in-flushed.ensures.same c.in-Ok-flushed.ensures.flushed c.leave-pass.ensures in
    record { flushed = done; same = done.went.same }

pub returns-in-Err-flushed : goal.returns-in-Err-flushed
returns-in-Err-flushed g c =
    let done = has_done (λ t deeds. FlushedSo t (Err c.in-Err-flushed.why) deeds) c.args.pass c.in-Ok.turn c.flush_in-flushed.new.turn c.leave-pass.result c.in-Ok.ensures.turn c.flush_in-flushed.ensures.same c.in-Err-flushed.ensures.flushed c.leave-pass.ensures in
    record { flushed = done; same = done.went.same }

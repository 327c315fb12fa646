use Rattle.held_tasks.proofs.Reading.{leaves_all, only_looks, status_seen}
use Rattle.held_tasks.proofs.status.read_status.Goals as goal

pub leave-pass-requires-clause-goes_on : goal.leave-pass-requires-clause-goes_on
leave-pass-requires-clause-goes_on g c = (leaves_all c.args.pass c.in-Ok.turn c.status_in-status.new.turn c.in-Ok.ensures.turn c.status_in-status.ensures.same).goes_on

pub leave-pass-requires-clause-marks : goal.leave-pass-requires-clause-marks
leave-pass-requires-clause-marks g c = (leaves_all c.args.pass c.in-Ok.turn c.status_in-status.new.turn c.in-Ok.ensures.turn c.status_in-status.ensures.same).marks

pub leave-pass-requires-clause-others : goal.leave-pass-requires-clause-others
leave-pass-requires-clause-others g c = (leaves_all c.args.pass c.in-Ok.turn c.status_in-status.new.turn c.in-Ok.ensures.turn c.status_in-status.ensures.same).others

pub returns-in-Ok-status : goal.returns-in-Ok-status
returns-in-Ok-status g c =
    let looks = only_looks c.args.pass c.in-Ok.turn c.status_in-status.new.turn c.leave-pass.result c.in-Ok.ensures.turn c.status_in-status.ensures.same c.leave-pass.ensures c.status_in-status.ensures.legal in
    let seen = status_seen c.args.pass c.in-Ok.turn c.status_in-status.new.turn c.leave-pass.result c.in-Ok.ensures.turn c.status_in-status.ensures.same c.leave-pass.ensures c.in-Ok-status.status c.status_in-status.result c.in-Ok-status.is
    c.status_in-status.ensures.status in
    record { read = (looks, seen); same = looks.goes.went.same }

pub returns-in-Err-status : goal.returns-in-Err-status
returns-in-Err-status g c =
    let looks = only_looks c.args.pass c.in-Ok.turn c.status_in-status.new.turn c.leave-pass.result c.in-Ok.ensures.turn c.status_in-status.ensures.same c.leave-pass.ensures c.status_in-status.ensures.legal in
    record { read = looks; same = looks.goes.went.same }

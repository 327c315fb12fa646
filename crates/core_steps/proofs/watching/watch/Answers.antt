use Rattle.std.proofs.Common.{sym, subst}
use Rattle.core_log.specs.Record.{Recorded}
use Rattle.core_steps.specs.Rooms.{IsKept}
use Rattle.core_steps.proofs.ClientKeeping.{room_keeps, watch_keeps}
use Rattle.core_steps.proofs.watching.watch.Goals as goal

pub returns-in-Ok-watch-clause-kept : goal.returns-in-Ok-watch-clause-kept
returns-in-Ok-watch-clause-kept c held ears k =
    let made = c.reserve.new.self in
    let there = room_keeps c.args.kept.now made.spare held ears c.args.rooms k c.reserve.ensures.stays in
    watch_keeps made c.watch.new.self held ears c.args.rooms c.args.by.number c.in-Some.client made.spare
    (subst (λ (r : Recorded). IsKept r held ears c.args.rooms) (sym c.reserve.ensures.same) there) c.in-Ok-watch.ensures.marked c.in-Ok-watch.ensures.course c.in-Ok.ensures.room c.in-Ok-watch.ensures.spare

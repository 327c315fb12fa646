use Rattle.std.specs.Vec.{vec_len}
use Rattle.core_steps.proofs.Keeping.{applied_ends}
use Rattle.core_steps.proofs.events.event.Goals as goal

pub returns-then-is_free-clause-ends : goal.returns-then-is_free-clause-ends
returns-then-is_free-clause-ends c end =
    applied_ends c.args.kept.now c.event.new.self (vec_len c.args.rooms.now) (vec_len c.take_room.new.rooms) c.args.boot c.args.event c.event.ensures.told c.event.ensures.course c.event.ensures.spare c.take_room.ensures.rooms end

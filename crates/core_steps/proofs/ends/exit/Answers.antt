use Rattle.std.proofs.Common.{Option, sym, subst}
use Rattle.std.specs.Vec.{vec_len}
use Rattle.domain_spec.specs.Cell.{LentEars}
use Rattle.core_steps.specs.Rooms.{IsKept}
use Rattle.core_steps.proofs.Keeping.{live_ends, live_keeps}
use Rattle.core_steps.proofs.ends.exit.Goals as goal

pub returns-then-is_live-clause-kept : goal.returns-then-is_live-clause-kept
returns-then-is_live-clause-kept c held k =
    subst (λ (ears : Option LentEars). IsKept c.exit.new.self held ears (vec_len c.take_room.new.rooms)) (sym c.tell.ensures)
    (live_keeps c.args.kept.now c.exit.new.self held c.args.ears.now (vec_len c.args.rooms.now) (vec_len c.take_room.new.rooms) c.args.boot c.args.why k c.requires.ears c.exit.ensures.told c.exit.ensures.course c.exit.ensures.spare c.take_room.ensures.rooms)

pub returns-then-is_live-clause-ends : goal.returns-then-is_live-clause-ends
returns-then-is_live-clause-ends c end =
    live_ends c.args.kept.now c.exit.new.self (vec_len c.args.rooms.now) (vec_len c.take_room.new.rooms) c.args.boot c.args.why c.exit.ensures.told c.exit.ensures.course c.exit.ensures.spare c.take_room.ensures.rooms end

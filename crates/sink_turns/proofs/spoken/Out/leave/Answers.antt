use Rattle.std.proofs.Common.{refl}
use Rattle.sink_turns.proofs.Leaving.{left_said}
use Rattle.sink_turns.proofs.Noting.{noted_first}
use Rattle.sink_turns.proofs.spoken.Out.leave.Goals as goal

pub invariant_of-self-2 : goal.invariant_of-self-2
invariant_of-self-2 g c =
    left_said g.number _ _ _ _ _ c.self.invariant c.self.view_is c.requires.1.0 refl c.args.message.now _ c.requires.1.1
    (noted_first _ _ _ _ _ c.reserve.ensures.items c.push_reserved.ensures.items c.note_said-said.ensures) refl refl
    (rw c.as_slice.ensures at c.in-Ok-extend_from_slice.ensures.items)

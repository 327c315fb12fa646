use Rattle.core_steps.proofs.Keeping.{untold_room}
use Rattle.core_steps.proofs.guest_laws.ears_have_room.Goals as goal

pub returns : goal.returns
returns c = untold_room

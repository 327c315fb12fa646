use Rattle.packet.proofs.Going.{front_sound}
use Rattle.packet.proofs.laws.sound_front.Goals as goal

pub returns : goal.returns
returns c = front_sound

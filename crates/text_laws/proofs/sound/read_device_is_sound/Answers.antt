use Rattle.text_laws.proofs.ReadSound.{device_sound}
use Rattle.text_laws.proofs.sound.read_device_is_sound.Goals as goal

pub returns : goal.returns
returns c = device_sound

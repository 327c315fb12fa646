use Rattle.text_laws.proofs.FilledSound.{device_filled_sound}
use Rattle.text_laws.proofs.sound.filled_device_is_sound.Goals as goal

pub returns : goal.returns
returns c = device_filled_sound

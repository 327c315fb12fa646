use Rattle.text_laws.proofs.FilledSound.{domain_filled_sound}
use Rattle.text_laws.proofs.sound.filled_domain_is_sound.Goals as goal

pub returns : goal.returns
returns c = domain_filled_sound

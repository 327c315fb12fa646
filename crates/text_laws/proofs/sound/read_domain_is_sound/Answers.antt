use Rattle.text_laws.proofs.ReadSound.{domain_sound}
use Rattle.text_laws.proofs.sound.read_domain_is_sound.Goals as goal

pub returns : goal.returns
returns c = domain_sound

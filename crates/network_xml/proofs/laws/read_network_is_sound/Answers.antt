use Rattle.network_xml.proofs.Sound.{read_sound}
use Rattle.network_xml.proofs.laws.read_network_is_sound.Goals as goal

pub returns : goal.returns
returns c = read_sound c.read_is_writable.ensures

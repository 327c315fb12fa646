use Rattle.network_xml.proofs.NetworkAgain.{network_filled}
use Rattle.network_xml.proofs.laws.filled_network_is_sound.Goals as goal

pub returns : goal.returns
returns c = network_filled

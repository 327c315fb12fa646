use Rattle.network_xml.proofs.NetworkAgain.{network_again}
use Rattle.network_xml.proofs.laws.printed_network_reads_back.Goals as goal

pub returns : goal.returns
returns c = network_again c.written_reads_back.ensures

use Rattle.storage_xml.proofs.VolumeAgain.{volume_again}
use Rattle.storage_xml.proofs.laws.printed_volume_reads_back.Goals as goal

pub returns : goal.returns
returns c = volume_again c.written_reads_back.ensures

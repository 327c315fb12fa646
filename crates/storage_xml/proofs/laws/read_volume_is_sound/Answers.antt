use Rattle.storage_xml.proofs.Sound.{read_volume_sound}
use Rattle.storage_xml.proofs.laws.read_volume_is_sound.Goals as goal

pub returns : goal.returns
returns c = read_volume_sound c.read_is_writable.ensures

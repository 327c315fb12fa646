use Rattle.storage_xml.proofs.Sound.{read_pool_sound}
use Rattle.storage_xml.proofs.laws.read_pool_is_sound.Goals as goal

pub returns : goal.returns
returns c = read_pool_sound c.read_is_writable.ensures

use Rattle.storage_xml.proofs.PoolAgain.{pool_filled}
use Rattle.storage_xml.proofs.laws.filled_pool_is_sound.Goals as goal

pub returns : goal.returns
returns c = pool_filled

use Rattle.storage_xml.proofs.PoolAgain.{pool_again}
use Rattle.storage_xml.proofs.laws.printed_pool_reads_back.Goals as goal

pub returns : goal.returns
returns c = pool_again c.written_reads_back.ensures

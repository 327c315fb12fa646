use Rattle.net_core.proofs.Indexes.{empty_at}
use Rattle.net_core.specs.Index.{address_at, number_of}
use Rattle.net_core.proofs.mac_index.MacIndex.new.Goals as goal

pub returns : goal.returns
unfolding address_at
returns c = λ bytes. empty_at c.new.result c.new.ensures.empty (number_of bytes)

use Rattle.object_list.proofs.Indexes.{empty_at}
use Rattle.object_list.specs.Index.{slot_at}
use Rattle.object_list.proofs.index.SlotIndex.new.Goals as goal

pub returns : goal.returns
unfolding slot_at
returns c = empty_at c.new.result c.new.ensures.empty

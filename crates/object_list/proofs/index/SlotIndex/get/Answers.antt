use Rattle.std.proofs.Common.{◌∙◌}
use Rattle.object_list.specs.Index.{slot_at}
use Rattle.object_list.proofs.index.SlotIndex.get.Goals as goal

pub returns : goal.returns
unfolding slot_at
returns c = c.copied.ensures ∙ c.get.ensures.value

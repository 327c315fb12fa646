use Rattle.std.proofs.Common.{None}
use Rattle.object_list.proofs.Indexes.{map_updates_bytes}
use Rattle.object_list.specs.Index.{slot_at}
use Rattle.object_list.proofs.index.SlotIndex.remove.Goals as goal

pub returns : goal.returns
unfolding slot_at
returns c = map_updates_bytes c.args.bytes.now c.args.self.now.slots c.remove.new.self None c.remove.ensures.updates

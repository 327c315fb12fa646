use Rattle.object_list.proofs.FreeBits.{all_free}
use Rattle.object_list.proofs.free_slots.FreeSlots.all.Goals as goal

pub returns : goal.returns
returns c = all_free

use Rattle.object_list.proofs.FreeBits.{lowest_bit}
use Rattle.object_list.proofs.free_slots.lowest.Goals as goal

pub returns : goal.returns
returns c = lowest_bit c.args.word c.requires c.ranges.word.fits

use Rattle.def_map.proofs.MapFinds.{lead_none}
use Rattle.def_map.proofs.map.DefMap.new.Goals as goal

pub invariant_of-result : goal.invariant_of-result
invariant_of-result c = rw (c.new.ensures, c.new-2.ensures) lead_none

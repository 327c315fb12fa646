use Rattle.std.proofs.Common.{None}
use Rattle.virsh.proofs.handed.LastLine.none.Given as goal

abbrev pub ghost-named : goal.ghost-named
ghost-named a = None

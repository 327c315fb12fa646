use Rattle.std.proofs.Common.{Some}
use Rattle.virsh.proofs.handed.LastLine.of.Given as goal

abbrev pub ghost-named_of : goal.ghost-named_of
ghost-named_of a = Some a._line.now

use Rattle.virsh.proofs.handed.named_of.Given as goal

abbrev pub ghost-named : goal.ghost-named
ghost-named g a = g.line

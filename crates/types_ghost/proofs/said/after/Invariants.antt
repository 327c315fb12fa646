use Rattle.types_ghost.proofs.said.after.Given as goal

abbrev pub ghost-named : goal.ghost-named
ghost-named g a = g.value

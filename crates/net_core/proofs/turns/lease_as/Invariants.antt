use Rattle.net_core.proofs.turns.lease_as.Given as goal

abbrev pub ghost-lease : goal.ghost-lease
ghost-lease g a = g.number

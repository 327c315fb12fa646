use Rattle.pool_core.proofs.turns.start_as.Given as goal

abbrev pub ghost-start : goal.ghost-start
ghost-start g a = g.number

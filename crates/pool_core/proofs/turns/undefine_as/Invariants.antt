use Rattle.pool_core.proofs.turns.undefine_as.Given as goal

abbrev pub ghost-undefine : goal.ghost-undefine
ghost-undefine g a = g.number

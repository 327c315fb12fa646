use Rattle.pool_core.proofs.turns.may_undefine_as.Given as goal

abbrev pub ghost-may_undefine : goal.ghost-may_undefine
ghost-may_undefine g a = g.number

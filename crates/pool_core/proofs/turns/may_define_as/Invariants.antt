use Rattle.pool_core.proofs.turns.may_define_as.Given as goal

abbrev pub ghost-may_define : goal.ghost-may_define
ghost-may_define g a = g.number

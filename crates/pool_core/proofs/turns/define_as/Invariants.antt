use Rattle.pool_core.proofs.turns.define_as.Given as goal

abbrev pub ghost-define : goal.ghost-define
ghost-define g a = g.number

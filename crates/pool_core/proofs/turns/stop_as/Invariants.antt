use Rattle.pool_core.proofs.turns.stop_as.Given as goal

abbrev pub ghost-stop : goal.ghost-stop
ghost-stop g a = g.number

use Rattle.pool_core.proofs.turns.start_in.Given as goal

abbrev pub ghost-start_as : goal.ghost-start_as
ghost-start_as a = a.turn.now.pass.number

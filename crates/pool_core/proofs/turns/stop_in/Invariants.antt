use Rattle.pool_core.proofs.turns.stop_in.Given as goal

abbrev pub ghost-stop_as : goal.ghost-stop_as
ghost-stop_as a = a.turn.now.pass.number

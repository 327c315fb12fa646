use Rattle.pool_core.proofs.turns.undefine_in.Given as goal

abbrev pub ghost-undefine_as : goal.ghost-undefine_as
ghost-undefine_as a = a.turn.now.pass.number

use Rattle.pool_core.proofs.turns.may_undefine_in.Given as goal

abbrev pub ghost-may_undefine_as : goal.ghost-may_undefine_as
ghost-may_undefine_as a = a.turn.now.pass.number

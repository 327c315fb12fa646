use Rattle.pool_core.proofs.turns.may_define_in.Given as goal

abbrev pub ghost-may_define_as : goal.ghost-may_define_as
ghost-may_define_as a = a.turn.now.pass.number

use Rattle.pool_core.proofs.turns.define_in.Given as goal

abbrev pub ghost-define_as : goal.ghost-define_as
ghost-define_as a = a.turn.now.pass.number

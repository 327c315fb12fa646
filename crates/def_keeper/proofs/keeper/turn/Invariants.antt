use Rattle.def_keeper.proofs.keeper.turn.Given as goal

abbrev pub ghost-turn : goal.ghost-turn
ghost-turn g a = g.base

use Rattle.def_keeper.proofs.turns.change_as.Given as goal

abbrev pub ghost-change : goal.ghost-change
ghost-change g a = g.number

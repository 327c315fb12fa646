use Rattle.def_keeper.proofs.turns.change_in.Given as goal

abbrev pub ghost-change_as : goal.ghost-change_as
ghost-change_as g a = a.turn.now.pass.number

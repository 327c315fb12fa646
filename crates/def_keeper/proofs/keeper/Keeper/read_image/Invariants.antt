use Rattle.def_keeper.proofs.keeper.Keeper.read_image.Given as goal

abbrev pub ghost-read_in : goal.ghost-read_in
ghost-read_in g a = g.number

use Rattle.def_keeper.proofs.keeper.Keeper.write_image.Given as goal

abbrev pub ghost-write_in : goal.ghost-write_in
ghost-write_in g a = g.number

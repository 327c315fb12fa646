use Rattle.def_keeper.proofs.image_turns.write_as.Given as goal

abbrev pub ghost-write_image : goal.ghost-write_image
ghost-write_image g a = g.number

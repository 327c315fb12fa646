use Rattle.def_keeper.proofs.image_turns.read_as.Given as goal

abbrev pub ghost-read_image : goal.ghost-read_image
ghost-read_image g a = g.number

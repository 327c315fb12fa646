use Rattle.def_keeper.proofs.image_turns.read_image_in.Given as goal

abbrev pub ghost-read_as : goal.ghost-read_as
ghost-read_as g a = a.turn.now.pass.number

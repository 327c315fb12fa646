use Rattle.def_keeper.proofs.image_turns.write_image_in.Given as goal

abbrev pub ghost-write_as : goal.ghost-write_as
ghost-write_as g a = a.turn.now.pass.number

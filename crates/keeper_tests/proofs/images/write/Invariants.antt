use Rattle.keeper_tests.proofs.images.write.Given as goal

abbrev pub ghost-write_image : goal.ghost-write_image
ghost-write_image a = 0

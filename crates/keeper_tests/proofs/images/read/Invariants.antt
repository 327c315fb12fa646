use Rattle.keeper_tests.proofs.images.read.Given as goal

abbrev pub ghost-read_image : goal.ghost-read_image
ghost-read_image a = 0

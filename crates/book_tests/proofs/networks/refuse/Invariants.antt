use Rattle.book_tests.proofs.networks.refuse.Given as goal

abbrev pub ghost-refuse : goal.ghost-refuse
ghost-refuse g a = (0, g.asked)

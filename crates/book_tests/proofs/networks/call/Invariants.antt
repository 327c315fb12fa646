use Rattle.book_tests.proofs.networks.call.Given as goal

abbrev pub ghost-lease : goal.ghost-lease
ghost-lease a = 0

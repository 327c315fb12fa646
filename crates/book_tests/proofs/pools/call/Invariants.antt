use Rattle.book_tests.proofs.pools.call.Given as goal

abbrev pub ghost-start : goal.ghost-start
ghost-start a = 0

abbrev pub ghost-stop : goal.ghost-stop
ghost-stop a = 0

abbrev pub ghost-make_volume : goal.ghost-make_volume
ghost-make_volume a = 0

use Rattle.book_tests.proofs.pools.call_volume.Given as goal

abbrev pub ghost-drop_volume : goal.ghost-drop_volume
ghost-drop_volume a = 0

use Rattle.keeper_tests.proofs.changes.change.Given as goal

abbrev pub ghost-change : goal.ghost-change
ghost-change g a = 0

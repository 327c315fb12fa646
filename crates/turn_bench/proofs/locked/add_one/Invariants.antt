use Rattle.turn_bench.proofs.locked.add_one.Given as goal

abbrev pub ghost-add : goal.ghost-add
ghost-add a = 0

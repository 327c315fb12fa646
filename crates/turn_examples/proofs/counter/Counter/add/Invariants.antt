use Rattle.turn_examples.proofs.counter.Counter.add.Given as goal

abbrev pub ghost-named : goal.ghost-named
ghost-named g a = g.number

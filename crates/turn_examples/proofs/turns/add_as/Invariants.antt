use Rattle.turn_examples.proofs.turns.add_as.Given as goal

abbrev pub ghost-add : goal.ghost-add
ghost-add g a = g.number

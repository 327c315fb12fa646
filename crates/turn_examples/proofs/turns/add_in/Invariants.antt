use Rattle.turn_examples.proofs.turns.add_in.Given as goal

abbrev pub ghost-add_as : goal.ghost-add_as
ghost-add_as a = a.turn.now.pass.number

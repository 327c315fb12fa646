use Rattle.sink_turns.proofs.turns.say_as.Given as goal

abbrev pub ghost-say : goal.ghost-say
ghost-say g a = g.number

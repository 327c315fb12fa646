use Rattle.sink_turns.proofs.turns.flush_as.Given as goal

abbrev pub ghost-flush : goal.ghost-flush
ghost-flush g a = g.number

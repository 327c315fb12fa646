use Rattle.sink_turns.proofs.turns.flush_in.Given as goal

abbrev pub ghost-flush_as : goal.ghost-flush_as
ghost-flush_as g a = a.turn.now.pass.number

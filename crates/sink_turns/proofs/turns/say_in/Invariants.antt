use Rattle.sink_turns.proofs.turns.say_in.Given as goal

abbrev pub ghost-say_as : goal.ghost-say_as
ghost-say_as g a = a.turn.now.pass.number

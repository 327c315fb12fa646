use Rattle.sink_turns.proofs.spoken.Out.say.Given as goal

abbrev pub ghost-leave : goal.ghost-leave
ghost-leave g a = g.number

abbrev pub ghost-put : goal.ghost-put
ghost-put g a = g.number

use Rattle.sink_turns.proofs.mark.note_cut.Given as goal

abbrev pub ghost-named : goal.ghost-named
ghost-named g a = g.mark

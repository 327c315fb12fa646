use Rattle.def_keeper.proofs.keep.mark_change.Given as goal

abbrev pub ghost-tell : goal.ghost-tell
ghost-tell g a = g.more

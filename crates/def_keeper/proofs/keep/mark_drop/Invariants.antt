use Rattle.def_keeper.proofs.keep.mark_drop.Given as goal

abbrev pub ghost-tell : goal.ghost-tell
ghost-tell g a = g.more

use Rattle.def_keeper.proofs.images.mark_unread.Given as goal

abbrev pub ghost-tell : goal.ghost-tell
ghost-tell g a = g.more

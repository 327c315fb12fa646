use Rattle.object_list.proofs.list.mark_release.Given as goal

abbrev pub ghost-tell : goal.ghost-tell
ghost-tell g a = g.asked

use Rattle.object_list.proofs.list.leave_mark.Given as goal

abbrev pub ghost-tell : goal.ghost-tell
ghost-tell g a = g.asked

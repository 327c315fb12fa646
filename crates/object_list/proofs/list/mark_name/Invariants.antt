use Rattle.object_list.proofs.list.mark_name.Given as goal

abbrev pub ghost-leave_mark : goal.ghost-leave_mark
ghost-leave_mark g a = g.asked

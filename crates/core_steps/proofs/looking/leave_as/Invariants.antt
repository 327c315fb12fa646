use Rattle.core_steps.proofs.looking.leave_as.Given as goal

abbrev pub ghost-leave : goal.ghost-leave
ghost-leave g a = g.number

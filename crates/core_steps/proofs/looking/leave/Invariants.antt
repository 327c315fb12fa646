use Rattle.core_steps.proofs.looking.leave.Given as goal

abbrev pub ghost-leave_as : goal.ghost-leave_as
ghost-leave_as a = a.by.now.number

use Rattle.core_steps.proofs.looking.join.Given as goal

abbrev pub ghost-join_as : goal.ghost-join_as
ghost-join_as a = a.by.now.number

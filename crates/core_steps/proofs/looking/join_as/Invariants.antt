use Rattle.core_steps.proofs.looking.join_as.Given as goal

abbrev pub ghost-look : goal.ghost-look
ghost-look g a = g.number

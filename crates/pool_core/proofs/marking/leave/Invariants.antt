use Rattle.pool_core.proofs.marking.leave.Given as goal

abbrev pub ghost-tell : goal.ghost-tell
ghost-tell g a = g.mark

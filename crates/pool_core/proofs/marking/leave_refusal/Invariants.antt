use Rattle.pool_core.proofs.marking.leave_refusal.Given as goal

abbrev pub ghost-tell : goal.ghost-tell
ghost-tell g a = g.mark

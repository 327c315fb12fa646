use Rattle.pool_core.proofs.marking.mark_deleted.Given as goal

abbrev pub ghost-leave : goal.ghost-leave
ghost-leave g a = g.mark

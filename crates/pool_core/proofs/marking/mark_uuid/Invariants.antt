use Rattle.pool_core.proofs.marking.mark_uuid.Given as goal

abbrev pub ghost-leave : goal.ghost-leave
ghost-leave g a = g.mark

use Rattle.pool_core.proofs.turns.may_autostart_as.Given as goal

abbrev pub ghost-may_autostart : goal.ghost-may_autostart
ghost-may_autostart g a = g.number

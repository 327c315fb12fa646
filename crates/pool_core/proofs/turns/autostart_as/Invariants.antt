use Rattle.pool_core.proofs.turns.autostart_as.Given as goal

abbrev pub ghost-autostart : goal.ghost-autostart
ghost-autostart g a = g.number

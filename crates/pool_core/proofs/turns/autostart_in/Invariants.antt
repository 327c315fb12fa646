use Rattle.pool_core.proofs.turns.autostart_in.Given as goal

abbrev pub ghost-autostart_as : goal.ghost-autostart_as
ghost-autostart_as a = a.turn.now.pass.number

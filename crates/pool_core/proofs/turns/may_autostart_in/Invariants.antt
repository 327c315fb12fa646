use Rattle.pool_core.proofs.turns.may_autostart_in.Given as goal

abbrev pub ghost-may_autostart_as : goal.ghost-may_autostart_as
ghost-may_autostart_as a = a.turn.now.pass.number

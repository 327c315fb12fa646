use Rattle.pool_core.proofs.turns.drop_volume_in.Given as goal

abbrev pub ghost-drop_volume_as : goal.ghost-drop_volume_as
ghost-drop_volume_as a = a.turn.now.pass.number

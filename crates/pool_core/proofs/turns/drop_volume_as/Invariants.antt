use Rattle.pool_core.proofs.turns.drop_volume_as.Given as goal

abbrev pub ghost-drop_volume : goal.ghost-drop_volume
ghost-drop_volume g a = g.number

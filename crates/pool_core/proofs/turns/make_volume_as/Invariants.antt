use Rattle.pool_core.proofs.turns.make_volume_as.Given as goal

abbrev pub ghost-make_volume : goal.ghost-make_volume
ghost-make_volume g a = g.number

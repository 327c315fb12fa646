use Rattle.pool_core.proofs.turns.make_volume_in.Given as goal

abbrev pub ghost-make_volume_as : goal.ghost-make_volume_as
ghost-make_volume_as a = a.turn.now.pass.number

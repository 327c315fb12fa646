use Rattle.object_list.proofs.turns.release_in.Given as goal

abbrev pub ghost-release_as : goal.ghost-release_as
ghost-release_as a = a.turn.now.pass.number

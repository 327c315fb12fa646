use Rattle.object_list.proofs.turns.release_as.Given as goal

abbrev pub ghost-release : goal.ghost-release
ghost-release g a = g.number

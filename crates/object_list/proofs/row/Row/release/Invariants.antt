use Rattle.object_list.proofs.row.Row.release.Given as goal

abbrev pub ghost-without : goal.ghost-without
ghost-without g a = g.number

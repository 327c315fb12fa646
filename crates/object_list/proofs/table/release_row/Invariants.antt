use Rattle.object_list.proofs.table.release_row.Given as goal

abbrev pub ghost-release : goal.ghost-release
ghost-release g a = g.number

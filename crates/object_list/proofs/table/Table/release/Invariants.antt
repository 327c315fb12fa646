use Rattle.object_list.proofs.table.Table.release.Given as goal

abbrev pub ghost-release_row : goal.ghost-release_row
ghost-release_row g a = g.number

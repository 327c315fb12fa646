use Rattle.object_list.proofs.table.Table.hold.Given as goal

abbrev pub ghost-hold_row : goal.ghost-hold_row
ghost-hold_row g a = g.number

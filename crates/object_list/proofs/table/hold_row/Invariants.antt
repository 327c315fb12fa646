use Rattle.object_list.proofs.table.hold_row.Given as goal

abbrev pub ghost-hold : goal.ghost-hold
ghost-hold g a = g.number

use Rattle.object_list.proofs.row.Row.hold.Given as goal

abbrev pub ghost-with : goal.ghost-with
ghost-with g a = g.number

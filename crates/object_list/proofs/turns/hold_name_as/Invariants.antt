use Rattle.object_list.proofs.turns.hold_name_as.Given as goal

abbrev pub ghost-hold_name : goal.ghost-hold_name
ghost-hold_name g a = g.number

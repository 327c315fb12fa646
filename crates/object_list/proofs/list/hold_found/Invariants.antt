use Rattle.object_list.proofs.list.hold_found.Given as goal

abbrev pub ghost-hold : goal.ghost-hold
ghost-hold g a = g.number

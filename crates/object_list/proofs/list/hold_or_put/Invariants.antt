use Rattle.object_list.proofs.list.hold_or_put.Given as goal

abbrev pub ghost-hold : goal.ghost-hold
ghost-hold g a = g.number

abbrev pub ghost-hold-2 : goal.ghost-hold-2
ghost-hold-2 g a = g.number

use Rattle.object_list.proofs.turns.hold_uuid_as.Given as goal

abbrev pub ghost-hold_uuid : goal.ghost-hold_uuid
ghost-hold_uuid g a = g.number

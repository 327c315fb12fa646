use Rattle.object_list.proofs.turns.hold_uuid_in.Given as goal

abbrev pub ghost-hold_uuid_as : goal.ghost-hold_uuid_as
ghost-hold_uuid_as a = a.turn.now.pass.number

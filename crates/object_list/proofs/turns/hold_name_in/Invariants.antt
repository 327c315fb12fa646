use Rattle.object_list.proofs.turns.hold_name_in.Given as goal

abbrev pub ghost-hold_name_as : goal.ghost-hold_name_as
ghost-hold_name_as a = a.turn.now.pass.number

use Rattle.domain_obj.proofs.turns.look_in.Given as goal

abbrev pub ghost-look_as : goal.ghost-look_as
ghost-look_as g a = a.turn.now.pass.number

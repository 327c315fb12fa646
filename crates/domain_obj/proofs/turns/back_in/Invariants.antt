use Rattle.domain_obj.proofs.turns.back_in.Given as goal

abbrev pub ghost-back_as : goal.ghost-back_as
ghost-back_as g a = a.turn.now.pass.number

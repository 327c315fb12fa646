use Rattle.domain_obj.proofs.turns.give_up_in.Given as goal

abbrev pub ghost-give_up_as : goal.ghost-give_up_as
ghost-give_up_as g a = a.turn.now.pass.number

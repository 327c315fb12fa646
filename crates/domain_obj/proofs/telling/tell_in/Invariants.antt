use Rattle.domain_obj.proofs.telling.tell_in.Given as goal

abbrev pub ghost-tell_as : goal.ghost-tell_as
ghost-tell_as g a = a.turn.now.pass.number

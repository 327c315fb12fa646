use Rattle.domain_obj.proofs.clients.take_in.Given as goal

abbrev pub ghost-take_as : goal.ghost-take_as
ghost-take_as g a = a.turn.now.pass.number

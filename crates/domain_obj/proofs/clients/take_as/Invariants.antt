use Rattle.domain_obj.proofs.clients.take_as.Given as goal

abbrev pub ghost-named : goal.ghost-named
ghost-named g a = g.number

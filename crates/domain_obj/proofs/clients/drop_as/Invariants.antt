use Rattle.domain_obj.proofs.clients.drop_as.Given as goal

abbrev pub ghost-named : goal.ghost-named
ghost-named g a = g.number

use Rattle.domain_obj.proofs.operating.entering.look_as.Given as goal

abbrev pub ghost-named : goal.ghost-named
ghost-named g a = g.number

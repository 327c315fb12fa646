use Rattle.history_spec.proofs.stamp.copy_of.Given as goal

abbrev pub ghost-named : goal.ghost-named
ghost-named g a = g.number

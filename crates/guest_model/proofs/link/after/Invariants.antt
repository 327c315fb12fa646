use Rattle.guest_model.proofs.link.after.Given as goal

abbrev pub ghost-named : goal.ghost-named
ghost-named g a = g.number

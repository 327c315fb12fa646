use Rattle.guest_model.proofs.link.none_yet.Given as goal

abbrev pub ghost-named : goal.ghost-named
ghost-named a = 0

use Rattle.monitor_link.proofs.guest.named_as.Given as goal

abbrev pub ghost-named : goal.ghost-named
ghost-named g a = g.guest

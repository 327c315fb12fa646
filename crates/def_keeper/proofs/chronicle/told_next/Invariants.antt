use Rattle.def_keeper.proofs.chronicle.told_next.Given as goal

abbrev pub ghost-named : goal.ghost-named
ghost-named g a = g.told

use Rattle.pool_core.proofs.chronicle.told_more.Given as goal

abbrev pub ghost-named : goal.ghost-named
ghost-named g a = g.told

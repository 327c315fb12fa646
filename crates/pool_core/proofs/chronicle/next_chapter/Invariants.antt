use Rattle.pool_core.proofs.chronicle.next_chapter.Given as goal

abbrev pub ghost-named : goal.ghost-named
ghost-named g a = g.told

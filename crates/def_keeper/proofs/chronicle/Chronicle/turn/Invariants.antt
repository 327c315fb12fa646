use Rattle.def_keeper.specs.Chapters.{next_chapter}
use Rattle.def_keeper.proofs.chronicle.Chronicle.turn.Given as goal

abbrev pub ghost-told_next : goal.ghost-told_next
ghost-told_next g a = next_chapter g.base.1 g.base.0 a._old.now.told

use Rattle.def_keeper.specs.Chapters.{with_marks}
use Rattle.def_keeper.proofs.chronicle.Chronicle.tell.Given as goal

abbrev pub ghost-told_next : goal.ghost-told_next
ghost-told_next g a = with_marks g.more a._old.now.told

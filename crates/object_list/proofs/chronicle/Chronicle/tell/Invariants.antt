use Rattle.book_spec.specs.ListHistory.{with_call}
use Rattle.object_list.proofs.chronicle.Chronicle.tell.Given as goal

abbrev pub ghost-told_more : goal.ghost-told_more
ghost-told_more g a = with_call g.asked.0 g.asked.1 a._old.now.told

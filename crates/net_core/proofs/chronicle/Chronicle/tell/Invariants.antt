use Rattle.book_spec.specs.NetHistory.{with_mark}
use Rattle.net_core.proofs.chronicle.Chronicle.tell.Given as goal

abbrev pub ghost-told_more : goal.ghost-told_more
ghost-told_more g a = with_mark g.mark a._old.now.told

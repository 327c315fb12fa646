use Rattle.std.proofs.Common.{[], ◌+◌}
use Rattle.book_spec.specs.ListHistory.{slots_of}
use Rattle.object_list.proofs.chronicle.Chronicle.open.Given as goal

abbrev pub ghost-next_chapter : goal.ghost-next_chapter
ghost-next_chapter a = record { chapter = a._old.now.told.chapter + 1; base = slots_of a._old.now.told; marks = [] }

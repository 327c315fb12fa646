use Rattle.std.proofs.Common.{[], ◌+◌}
use Rattle.book_spec.specs.NetHistory.{networks_of}
use Rattle.net_core.proofs.chronicle.Chronicle.open.Given as goal

abbrev pub ghost-next_chapter : goal.ghost-next_chapter
ghost-next_chapter a = record { chapter = a._old.now.told.chapter + 1; base = networks_of a._old.now.told; marks = [] }

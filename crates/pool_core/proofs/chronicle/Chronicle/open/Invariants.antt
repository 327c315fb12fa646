use Rattle.std.proofs.Common.{[], ◌+◌}
use Rattle.book_spec.specs.PoolHistory.{pools_of}
use Rattle.pool_core.proofs.chronicle.Chronicle.open.Given as goal

abbrev pub ghost-next_chapter : goal.ghost-next_chapter
ghost-next_chapter a = record { chapter = a._old.now.told.chapter + 1; base = pools_of a._old.now.told; marks = [] }

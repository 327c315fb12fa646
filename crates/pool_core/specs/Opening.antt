-- The pools with which the book is opened: each is inactive and has no volumes.
use Rattle.book_spec.specs.declared.pool_book.Pool.{Pool}
use Rattle.book_spec.specs.Pools.{new_pool}
use Rattle.pool_core.specs.declared.found.FoundPool.{FoundPool}

abbrev pub opened : FoundPool → Pool
opened found = record (new_pool found.def) { autostart = found.autostart }

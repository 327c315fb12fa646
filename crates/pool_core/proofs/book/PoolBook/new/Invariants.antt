use Rattle.pool_core.proofs.book.PoolBook.new.Given as goal

abbrev pub ghost-begin : goal.ghost-begin
ghost-begin a = a._table.now

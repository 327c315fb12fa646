use Rattle.net_core.proofs.book.NetBook.new.Given as goal

abbrev pub ghost-begin : goal.ghost-begin
ghost-begin a = a._table.now

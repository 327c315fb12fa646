use Rattle.pool_core.proofs.Calling.{kept-new}
use Rattle.pool_core.proofs.book.PoolBook.new.Goals as goal

pub invariant_of-result : goal.invariant_of-result
invariant_of-result c = kept-new c.in_ok-table.table c.begin-chronicle.result c.begin-chronicle.ensures

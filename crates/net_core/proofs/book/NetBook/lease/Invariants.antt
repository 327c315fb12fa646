use Rattle.book_spec.specs.declared.book.NetCall.TheVariants as call
use Rattle.book_spec.specs.NetHistory.{told_lease}
use Rattle.net_core.proofs.book.NetBook.lease.Given as goal

abbrev pub ghost-mark_lease : goal.ghost-mark_lease
ghost-mark_lease g a = record { number = g.number; call = call.Lease a._name.now a._mac; answer = told_lease a.leased.now }

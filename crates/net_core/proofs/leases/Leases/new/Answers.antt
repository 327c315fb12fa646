use Rattle.std.proofs.Common.{sym, subst}
use Rattle.net_core.specs.Entries.{IsIndexed}
use Rattle.net_core.proofs.Leasing.{indexed-new}
use Rattle.net_core.proofs.leases.Leases.new.Goals as goal

pub invariant_of-result : goal.invariant_of-result
invariant_of-result c = subst (IsIndexed c.new-2.result) (sym c.new.ensures.items) (indexed-new c.new-2.result c.new-2.ensures)

use Rattle.book_spec.specs.Leases.{bounds_of, dhcp_of, lines_of}
use Rattle.net_core.proofs.Leasing.{keeps-new}
use Rattle.net_core.proofs.entry.Entry.new.Goals as goal

pub invariant_of-result : goal.invariant_of-result
invariant_of-result c = keeps-new (bounds_of (dhcp_of c.args.def.ip)) (lines_of (dhcp_of c.args.def.ip)) c.new.result c.first_address-next.result c.new.ensures c.first_address-next.ensures

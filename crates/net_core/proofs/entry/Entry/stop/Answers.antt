use Rattle.book_spec.specs.Leases.{bounds_of, dhcp_of, lines_of}
use Rattle.net_core.proofs.Leasing.{keeps-new}
use Rattle.net_core.proofs.entry.Entry.stop.Goals as goal

pub invariant_of-self : goal.invariant_of-self
invariant_of-self c = keeps-new (bounds_of (dhcp_of c.self.inside.def.ip)) (lines_of (dhcp_of c.self.inside.def.ip)) c.new.result c.first_address-self-inside.result c.new.ensures c.first_address-self-inside.ensures

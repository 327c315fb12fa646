use Rattle.std.proofs.Common.{◌≡◌, None, subst}
use Rattle.book_spec.specs.declared.book.Network.{Network}
use Rattle.book_spec.specs.Leases.{least_free, range_of, hosts_of}
use Rattle.net_core.proofs.Leasing.{least-none, least-some}
use Rattle.net_core.proofs.entry.Entry.least_free.Goals as goal

pub returns-in-None : goal.returns-in-None
returns-in-None c =
    let network : Network = record { def = c.self.inside.def; autostart = c.self.inside.autostart; active = c.self.inside.active; leases = c.self.inside.leases } in
    subst (λ (n : Network). None ≡ least_free (range_of n) (hosts_of n) n.leases) c.self.view_is (least-none network c.range.result c.range.ensures c.in-None.is)

pub returns-in-Some : goal.returns-in-Some
returns-in-Some c =
    let network : Network = record { def = c.self.inside.def; autostart = c.self.inside.autostart; active = c.self.inside.active; leases = c.self.inside.leases } in
    subst (λ (n : Network). c.first_without_line.result ≡ least_free (range_of n) (hosts_of n) n.leases) c.self.view_is
    (least-some network c.range.result c.in-Some.range c.hosts.result.now c.self.inside.next c.first_without_line.result c.range.ensures c.in-Some.is c.hosts.ensures c.self.invariant c.first_without_line.ensures)

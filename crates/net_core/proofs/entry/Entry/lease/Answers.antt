use Rattle.std.proofs.Common.{◌≡◌, Some, sym, ◌∙◌, subst}
use Rattle.book_spec.specs.declared.book.Network.{Network}
use Rattle.book_spec.specs.Leases.{address_for}
use Rattle.net_core.proofs.Leasing.{address-leased}
use Rattle.net_core.proofs.entry.Entry.lease.Goals as goal

pub returns-in-Some-clause-address : goal.returns-in-Some-clause-address
returns-in-Some-clause-address c =
    let network : Network = record { def = c.self.inside.def; autostart = c.self.inside.autostart; active = c.self.inside.active; leases = c.self.inside.leases } in
    subst (λ (n : Network). Some c.in-Some.address ≡ address_for c.args.mac n) c.self.view_is (address-leased c.args.mac network c.in-Some.address (sym c.get.ensures ∙ c.in-Some.is))

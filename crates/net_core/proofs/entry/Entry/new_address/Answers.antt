use Rattle.std.proofs.Common.{◌≡◌, Some, None, sym, ap, ◌∙◌, subst}
use Rattle.book_spec.specs.declared.book.Network.{Network}
use Rattle.book_spec.specs.Leases.{address_for, hosted_for, hosts_of, leased_to, least_free, range_of}
use Rattle.net_core.proofs.Leasing.{address-hosted}
use Rattle.net_core.proofs.entry.Entry.new_address.Goals as goal

pub returns-in-Some : goal.returns-in-Some
returns-in-Some c =
    let network : Network = record { def = c.self.inside.def; autostart = c.self.inside.autostart; active = c.self.inside.active; leases = c.self.inside.leases } in
    subst (λ (n : Network). Some c.in-Some.address ≡ address_for c.args.mac n) c.self.view_is
    (address-hosted c.args.mac network (Some c.in-Some.address) (subst (λ (n : Network). leased_to c.args.mac n.leases ≡ None) (sym c.self.view_is) c.requires) (ap (hosted_for c.args.mac) (sym c.hosts.ensures) ∙ (sym c.address_of.ensures ∙ c.in-Some.is)))

pub returns : goal.returns
returns c =
    let network : Network = record { def = c.self.inside.def; autostart = c.self.inside.autostart; active = c.self.inside.active; leases = c.self.inside.leases } in
    subst (λ (n : Network). c.least_free.result ≡ address_for c.args.mac n) c.self.view_is
    (subst (λ (n : Network). c.least_free.result ≡ least_free (range_of n) (hosts_of n) n.leases) (sym c.self.view_is) c.least_free.ensures ∙ address-hosted c.args.mac network None (subst (λ (n : Network). leased_to c.args.mac n.leases ≡ None) (sym c.self.view_is) c.requires) (ap (hosted_for c.args.mac) (sym c.hosts.ensures) ∙ (sym c.address_of.ensures ∙ c.in_default.is)))

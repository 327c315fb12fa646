use Rattle.std.proofs.Common.{◌≡◌, ◌+◌, ℕ, List, None, Some, true, false, sym, ap, ◌∙◌, subst}
use Rattle.virt_types.specs.declared.value.LeaseRow.{LeaseRow}
use Rattle.book_spec.specs.declared.book.Network.{Network}
use Rattle.book_spec.specs.Leases.{address_for, bounds_of, dhcp_of, leased_to, lines_of, is_hosted}
use Rattle.net_core.specs.Entries.{KeepsNext}
use Rattle.net_core.proofs.Leasing.{keeps-free, keeps-hosted, address-free}
use Rattle.net_core.proofs.entry.Entry.lease_new.Goals as goal

pub invariant_of-self-then-not-is_host_address : goal.invariant_of-self-then-not-is_host_address
invariant_of-self-then-not-is_host_address c =
    let network : Network = record { def = c.self.inside.def; autostart = c.self.inside.autostart; active = c.self.inside.active; leases = c.self.inside.leases } in
    let range = bounds_of (dhcp_of c.self.inside.def.ip) in
    let hosts = lines_of (dhcp_of c.self.inside.def.ip) in
    let apart : is_hosted c.args.address hosts ≡ false = ap (is_hosted c.args.address) (sym c.hosts.ensures) ∙ (sym c.is_host_address.ensures ∙ c.if-not-is_host_address.true) in
    subst (λ (x : List LeaseRow × ℕ). KeepsNext range hosts x.0 (x.1 + 1)) (λ i. (sym c.in_ok-push.ensures.ok i, sym c.from.ensures i))
    (keeps-free range hosts c.self.inside.leases c.self.inside.next c.args.mac c.args.address (address-free c.args.mac network c.args.address (subst (λ (n : Network). address_for c.args.mac n ≡ Some c.args.address) (sym c.self.view_is) c.requires.free) (subst (λ (n : Network). leased_to c.args.mac n.leases ≡ None) (sym c.self.view_is) c.requires.none) apart) c.self.invariant)

pub invariant_of-self-else-not-is_host_address : goal.invariant_of-self-else-not-is_host_address
invariant_of-self-else-not-is_host_address c =
    let range = bounds_of (dhcp_of c.self.inside.def.ip) in
    let hosts = lines_of (dhcp_of c.self.inside.def.ip) in
    let hosted : is_hosted c.args.address hosts ≡ true = ap (is_hosted c.args.address) (sym c.hosts.ensures) ∙ (sym c.is_host_address.ensures ∙ c.if-not-is_host_address.false) in
    subst (λ (x : List LeaseRow). KeepsNext range hosts x c.self.inside.next) (sym c.in_ok-push.ensures.ok)
    (keeps-hosted range hosts c.self.inside.leases c.self.inside.next c.args.mac c.args.address hosted c.self.invariant)

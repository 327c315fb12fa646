use Rattle.std.proofs.Common.{sym, subst}
use Rattle.virt_types.specs.Below.types_base.declared.network_def.NetDef.{NetDef}
use Rattle.book_spec.specs.Leases.{bounds_of, dhcp_of, lines_of}
use Rattle.net_core.specs.Entries.{KeepsNext}
use Rattle.net_core.proofs.Leasing.{keeps-new}
use Rattle.net_core.proofs.entry.Entry.redefine.Goals as goal

pub invariant_of-self : goal.invariant_of-self
invariant_of-self c = subst (λ (d : NetDef). KeepsNext (bounds_of (dhcp_of d.ip)) (lines_of (dhcp_of d.ip)) c.new.result c.first_address-next.result) (sym c.replace.ensures.after)
    (keeps-new (bounds_of (dhcp_of c.args.def.ip)) (lines_of (dhcp_of c.args.def.ip)) c.new.result c.first_address-next.result c.new.ensures c.first_address-next.ensures)

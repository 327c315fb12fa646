use Rattle.std.proofs.Common.{◌++◌, ◌∷◌, [], ap, ◌∙◌, sym, subst}
use Rattle.net_core.specs.Entries.{IsIndexed}
use Rattle.net_core.proofs.Leasing.{indexed-more}
use Rattle.net_core.proofs.leases.Leases.push.Goals as goal

pub invariant_of-self-2 : goal.invariant_of-self-2
invariant_of-self-2 c =
    subst (IsIndexed c.insert.new.self) (sym (c.push_reserved.ensures.items ∙ ap (λ rows. rows ++ record { mac = c.args.mac; address = c.args.address } ∷ []) c.reserve.ensures.items))
    (indexed-more c.self.inside.by_mac c.insert.new.self c.self.inside.rows.items c.args.mac c.args.address c.self.invariant (rw c.self.view_is c.requires)
    c.in_ok-insert.ensures.ok)

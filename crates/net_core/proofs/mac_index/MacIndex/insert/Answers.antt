use Rattle.std.proofs.Common.{nat_eq, ℕ, Some, subst}
use Rattle.std.specs.HashMap.{Updates}
use Rattle.net_core.proofs.Indexes.{updated_at, same_at}
use Rattle.net_core.specs.Index.{address_at, number_of}
use Rattle.net_core.proofs.mac_index.MacIndex.insert.Goals as goal

pub returns-in-Ok-clause-ok : goal.returns-in-Ok-clause-ok
unfolding address_at
returns-in-Ok-clause-ok c =
    updated_at c.args.bytes c.args.self.now.addresses c.insert.new.self (Some c.args.address) c.number.ensures.mac
    (subst (λ (key : ℕ). Updates nat_eq c.args.self.now.addresses c.insert.new.self key (Some c.args.address)) c.number.ensures.number c.in-Ok.ensures.updates)

pub returns-in-Err-clause-err : goal.returns-in-Err-clause-err
unfolding address_at
returns-in-Err-clause-err c = λ other. same_at c.args.self.now.addresses c.insert.new.self c.in-Err.ensures.err (number_of other)

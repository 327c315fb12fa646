use Rattle.std.proofs.Common.{nat_eq, ◌∙◌, ap}
use Rattle.std.specs.HashMap.{get}
use Rattle.net_core.specs.Index.{address_at}
use Rattle.net_core.proofs.mac_index.MacIndex.get.Goals as goal

pub returns-clause-address : goal.returns-clause-address
unfolding address_at
returns-clause-address c = c.copied.ensures ∙ (c.get.ensures.value ∙ ap (get nat_eq c.args.self.now.addresses) c.number.ensures.number)

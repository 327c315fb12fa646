use Rattle.std.proofs.Common.{List, ℕ, subst}
use Rattle.std.specs.List.Sorted.{IsPermutation}
use Rattle.def_keeper.proofs.Orders.{listed_so}
use Rattle.def_keeper.proofs.listing.listed.Goals as goal

pub returns-in-Ok-in_order-clause-names : goal.returns-in-Ok-in_order-clause-names
returns-in-Ok-in_order-clause-names g c = listed_so (g.F.Files.told c.args.files.now) c.in-Ok.names c.in-Ok-in_order.names
    (subst (λ (l : List (List ℕ)). IsPermutation l c.in-Ok-in_order.names) c.as_slice.ensures c.in-Ok-in_order.ensures.same) c.in-Ok.ensures.names

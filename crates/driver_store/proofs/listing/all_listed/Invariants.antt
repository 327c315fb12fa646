use Rattle.std.proofs.Common.{◌≡◌, map, take}
use Rattle.driver_store.specs.Listing.{listed}
use Rattle.driver_store.proofs.listing.all_listed.Given as goal

abbrev pub invariant-loop-domain : goal.invariant-loop-domain
invariant-loop-domain l = l.told ≡ map listed (take l.domain-index l.domains)

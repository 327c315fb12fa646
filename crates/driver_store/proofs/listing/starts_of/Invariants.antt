use Rattle.std.proofs.Common.{◌≡◌, ◌++◌, drop}
use Rattle.driver_store.specs.Listing.{starts_of}
use Rattle.driver_store.proofs.listing.starts_of.Given as goal

-- what is asked so far and what is left to come are all
abbrev pub invariant-loop-domain : goal.invariant-loop-domain
invariant-loop-domain l = l.requests ++ starts_of (drop l.domain-index l.domains) ≡ starts_of l.domains

-- What is found so far and what is left to find are all.
use Rattle.std.proofs.Common.{◌≡◌, ◌++◌, drop}
use Rattle.def_map.specs.Map.{found}
use Rattle.found_domains.specs.Found.{again_in, domains_in, first_bad}
use Rattle.found_domains.proofs.opening.take_all.Given as goal

abbrev pub invariant-loop-row : goal.invariant-loop-row
invariant-loop-row l = (first_bad (found l.map) (drop l.row-index l.rows) ≡ first_bad (found l.map) l.rows)
    × (l.domains ++ domains_in (found l.map) (drop l.row-index l.rows) ≡ domains_in (found l.map) l.rows)
    × (l.again ++ again_in (found l.map) (drop l.row-index l.rows) ≡ again_in (found l.map) l.rows)

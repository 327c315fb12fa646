-- Who waits for a domain, in the order in which they came.
use Rattle.std.specs.Prelude.{List, [], ◌∷◌, ◌++◌, filter, not, if◌then◌else◌}
use Rattle.domain_spec.specs.Open.{is_among, is_same_who}
use Rattle.domain_spec.specs.Types.{Who}

-- all but this caller
abbrev pub without : List Who → Who → List Who
without callers who = filter (λ caller. not (is_same_who who caller)) callers

-- those and this caller, who stays where they are if they wait already
abbrev pub joined : List Who → Who → List Who
joined callers who = (if is_among callers who then callers else callers ++ who ∷ [])

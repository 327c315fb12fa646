-- What is known of a pass of a domain, as outcomes speak of it.
use Rattle.domain_obj.specs.InTurn.{DomainPass}
use Rattle.outcome_spec.specs.Rows.{DomainPass as KnownPass}

-- its number, what it has seen, its own marks, and whether no ticket is left
abbrev pub known : DomainPass → KnownPass
known p = record { number = p.number; seen = p.seen; mine = p.mine; spent = p.spent }

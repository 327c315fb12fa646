-- Events of a domain, by their numbers (virDomainEventType of libvirt-domain.h).
use Rattle.std.specs.Prelude.{ℕ}
use Rattle.types_base.specs.declared.transition.Transition.{Transition}

-- the event of this number with the detail of that number
abbrev pub transition : ℕ → ℕ → Transition
transition event detail = record { event = event; detail = detail }

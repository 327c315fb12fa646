-- A domain that has a guest and an operation.
use Rattle.std.specs.Prelude.{Option, Some}
use Rattle.domain_spec.specs.Types.{Live, Op}

-- both are there
abbrev pub AreThere : Option Live → Option Op → Type 0
AreThere (Some l) (Some op) = Unit {0}
AreThere live op = ⊥

-- this holds of both, where they are there
abbrev pub OnBoth : Option Live → Option Op → (Live → Op → Type 0) → Type 0
OnBoth (Some l) (Some op) holds = holds l op
OnBoth live op holds = Unit {0}

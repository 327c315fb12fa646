-- A table of 32 places, of which the first have a caller each and the others nobody.
use Rattle.std.specs.Prelude.{◌≡◌, ℕ, ◌-◌, ◌≤◌, List, ◌++◌, length, take, replicate}
use Rattle.domain_spec.specs.Open.{AreDistinct}
use Rattle.domain_spec.specs.Types.{Who}

-- what is at a place where nobody waits
abbrev pub nobody : Who
nobody = record { session = 0; lane = 0; count = 0 }

-- the table that has these callers
abbrev pub padded : List Who → List Who
padded callers = callers ++ replicate (32 - length callers) nobody

-- the first so many places have different callers, and the others nobody
pub record IsFilled (places : List Who) (count : ℕ) : Type 0 where
  pub within : count ≤ 32
  pub counted : length (take count places) ≡ count
  pub padding : padded (take count places) ≡ places
  pub distinct : AreDistinct (take count places)

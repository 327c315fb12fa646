-- Answers with which it is tried what a phase would ask.
use Rattle.std.specs.Prelude.{◌≡◌, List, []}
use Rattle.domain_spec.specs.Types.{Answer}
use Rattle.domain_spec.specs.Asks.{first_value}
use Rattle.domain_spec.specs.PhaseAsks.{copied_bytes}

-- the first of these answers brings no copy of a guest's state
abbrev pub BringsNone : List Answer → Type 0
BringsNone answers = copied_bytes (first_value answers) ≡ []

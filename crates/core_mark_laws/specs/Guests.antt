-- Beside an open operation no guest runs but its own.
use Rattle.std.specs.Prelude.{◌≡◌, ◌⊎◌, ℕ, Option, None, Some}
use Rattle.domain_spec.specs.Types.{State}
use Rattle.domain_spec.specs.declared.mark.Mark.{Mark}
use Rattle.domain_spec.specs.declared.open.OpenOperation.{OpenOperation}
use Rattle.domain_spec.specs.declared.standing.Standing.{Standing}
use Rattle.domain_spec.specs.Fold.{applied}
use Rattle.domain_spec.specs.Reading.{live_boot}

-- the guest of this boot runs, or none; of no boot none
abbrev pub RunsOnly : Option ℕ → State → Type 0
RunsOnly boot s = (live_boot s ≡ boot) ⊎ (live_boot s ≡ None)

-- no guest runs but that of the operation
abbrev pub HasOwnGuest : State → Option OpenOperation → Type 0
HasOwnGuest s None = Unit {0}
HasOwnGuest s (Some o) = RunsOnly o.boot s

-- after one more mark, be it lawful or not
abbrev pub EveryMarkKeepsGuests : Type 0
EveryMarkKeepsGuests = (s : Standing) (m : Mark ℕ) → HasOwnGuest s.state s.operation → HasOwnGuest (applied s m).state (applied s m).operation

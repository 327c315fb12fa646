-- A word of 32 bits that says which slots are taken.
use Rattle.std.specs.Prelude.{◌≡◌, ◌<◌, ℕ, List, if◌then◌else◌}
use Rattle.std.specs.Int.{bit_at}
use Rattle.domain_spec.specs.Devices.{is_taken}

-- bit n of the word is set exactly where a device has slot n
abbrev pub MarksTaken : List ℕ → ℕ → Type 0
MarksTaken slots word = (n : ℕ) → n < 32 → bit_at word n ≡ (if is_taken slots n then 1 else 0)

-- Amounts and their total.
use Rattle.std.specs.Prelude.{◌≡◌, ℕ, ◌++◌, List, [], ◌∷◌, sum_by}
use Rattle.history_spec.specs.declared.stamp.Stamp.{Stamp}
use Rattle.turn_examples.specs.declared.counter.Amount.{Amount}

abbrev pub total_of : List Amount → ℕ
total_of amounts = sum_by (λ m. m.amount) amounts

-- one amount was added, under this number
abbrev pub Adds : ℕ → ℕ → List Amount → List Amount → Type 0
Adds number amount old new = (by : Stamp) × (by.number ≡ number) × (new ≡ old ++ record { by = by; amount = amount } ∷ [])

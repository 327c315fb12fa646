-- Many turns of one pass.
use Rattle.std.specs.Prelude.{◌≡◌, ℕ, List, [], ◌∷◌, length}
use Rattle.turn_cell.specs.Passes.{Passed}
use Rattle.turn_cell.specs.Turning.{Went}
use Rattle.turn_examples.specs.declared.counter.Amount.{Amount}
use Rattle.turn_examples.specs.Keeping.{meaning}

-- each of these marks is of the only chapter, of this number and of this amount
abbrev pub AreAdded : ℕ → ℕ → List (ℕ × Amount) → Type 0
AreAdded number amount [] = Unit {0}
AreAdded number amount (x ∷ xs) = (x.0 ≡ 0) × (x.1.by.number ≡ number) × (x.1.amount ≡ amount) × AreAdded number amount xs

-- a pass, after as many turns, in each of which it added this amount
pub record HasAddedMany (amount times : ℕ) (before after : Passed (Unit {0}) Amount (Unit {0})) : Type 0 where
  pub more : List (ℕ × Amount)
  pub went : Went meaning times more before after
  pub many : length more ≡ times
  pub added : AreAdded before.number amount more

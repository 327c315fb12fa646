-- A list with room that was set aside.
use Rattle.std.specs.Prelude.{ℕ, List}

-- a list, and how many more values fit without memory
pub record Roomy (X : Type 0) : Type 0 where
  pub list : List X
  pub room : ℕ

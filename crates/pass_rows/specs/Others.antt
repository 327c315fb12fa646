-- Passes in slots, while one of them is out.
use Rattle.std.specs.Prelude.{ℕ, ◌+◌, List, ◌++◌, take, drop}

-- those before the one that is out, and those after it
pub record Others (P : Type 0) : Type 0 where
  pub before : List P
  pub after : List P

-- what was taken out of this slot left its place to the last one
abbrev pub others_of : {P : Type 0} → ℕ → List P → Others P
others_of slot rest = record {
  before = take slot rest;
  after = drop (slot + 1) rest ++ take 1 (drop slot rest);
}

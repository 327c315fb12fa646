-- Passes: which marks are whose, and what a pass keeps after a turn.
use Rattle.std.specs.Prelude.{◌≡◌, ℕ, ◌==◌, ◌++◌, Bool, false, List, [], ◌∷◌, filter, Option, None, Some}
use Rattle.history_spec.specs.declared.history.History.{History}
use Rattle.history_spec.specs.Chapter.{added, tagged}

-- the mark bears this number
abbrev pub bears : ℕ → Option ℕ → Bool
bears number None = false
bears number (Some n) = n == number

-- the mark bears this number, or belongs to nobody
abbrev pub IsOf : ℕ → Option ℕ → Type 0
IsOf number None = Unit {0}
IsOf number (Some n) = n ≡ number

-- the history that was left, where there is a mark; else the one that was held
abbrev pub held_if : {B M : Type 0} → List M → History B M → History B M → History B M
held_if [] left held = held
held_if (m ∷ ms) left held = left

module _ {M : Type 0} (whose : M → Option ℕ) where
  -- the marks that bear a number
  abbrev pub own : ℕ → List M → List M
  own number marks = filter (λ m. bears number (whose m)) marks

  -- each mark bears this number, or belongs to nobody
  abbrev pub AreOf : ℕ → List M → Type 0
  AreOf number [] = Unit {0}
  AreOf number (m ∷ ms) = IsOf number (whose m) × AreOf number ms

  -- a pass's own marks after a turn, with the numbers of their chapters
  abbrev pub mine_after : {B : Type 0} → ℕ → History B M → History B M → List (ℕ × M) → List (ℕ × M)
  mine_after number entry left mine = mine ++ tagged left.chapter (own number (added entry left))

  -- the history that is held after a turn
  abbrev pub held_after : {B : Type 0} → ℕ → History B M → History B M → History B M → History B M
  held_after number entry left held = held_if (own number (added entry left)) left held

-- Fronts: how far a history has come.
use Rattle.std.specs.Prelude.{ℕ, ◌==◌, ◌&&◌, ◌||◌, nat_lt, Bool, length, if◌then◌else◌}
use Rattle.history_spec.specs.declared.history.History.{History}

-- the number of a chapter, and how many marks it has
pub record Front : Type 0 where
  pub chapter : ℕ
  pub marks : ℕ

-- how far a history has come
abbrev pub front_of : {B M : Type 0} → History B M → Front
front_of h = record { chapter = h.chapter; marks = length h.marks }

-- the first front is the lesser: its chapter is earlier, or has fewer marks
abbrev pub front_lt : Front → Front → Bool
front_lt a b = nat_lt a.chapter b.chapter || ((a.chapter == b.chapter) && nat_lt a.marks b.marks)

-- of two histories the first, unless the second has come further
abbrev pub longer_history : {B M : Type 0} → History B M → History B M → History B M
longer_history a b = if front_lt (front_of a) (front_of b) then b else a

-- When one history is a beginning of another, of one shared value.
use Rattle.std.specs.Prelude.{◌≡◌, ◌⊎◌, ℕ, ◌<◌, ◌≤◌, ◌++◌, List, []}
use Rattle.history_spec.specs.declared.history.History.{History}

-- the second list is the first and more
abbrev pub IsPrefix : {M : Type 0} → List M → List M → Type 0
IsPrefix xs ys = (more : List _) × (xs ++ more ≡ ys)

module _ {B M : Type 0} where
  -- both are in one chapter, and the second has the marks of the first and more
  pub record SameChapter (a b : History B M) : Type 0 where
    pub chapter : a.chapter ≡ b.chapter
    pub base : a.base ≡ b.base
    pub marks : IsPrefix a.marks b.marks

  -- the second is in a later chapter, whose base has at least the rising number at the end of the first
  pub record LaterChapter (rising : B → List M → ℕ) (a b : History B M) : Type 0 where
    pub chapter : a.chapter < b.chapter
    pub rises : rising a.base a.marks ≤ rising b.base []

  -- the first history begins the second
  abbrev pub Begins : (B → List M → ℕ) → History B M → History B M → Type 0
  Begins rising a b = SameChapter a b ⊎ LaterChapter rising a b

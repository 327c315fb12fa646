-- Chapters: what a turn adds to a history, and marks that are kept with the numbers of their chapters.
use Rattle.std.specs.Prelude.{◌≡◌, ◌⊎◌, ℕ, ◌+◌, ◌==◌, List, length, drop, filter, map, if◌then◌else◌}
use Rattle.history_spec.specs.declared.history.History.{History}
use Rattle.history_spec.specs.Begins.{SameChapter}

module _ {B M : Type 0} where
  -- the next chapter was begun, from this base
  pub record BeginsChapter (next : B) (a b : History B M) : Type 0 where
    pub chapter : b.chapter ≡ a.chapter + 1
    pub base : b.base ≡ next

  -- marks were added, or the next chapter was begun
  abbrev pub GoesOn : B → History B M → History B M → Type 0
  GoesOn next a b = SameChapter a b ⊎ BeginsChapter next a b

  -- the marks of the second history that the first has not
  abbrev pub added : History B M → History B M → List M
  added a b = if a.chapter == b.chapter then drop (length a.marks) b.marks else b.marks

module _ {M : Type 0} where
  -- marks, each with the number of its chapter
  abbrev pub tagged : ℕ → List M → List (ℕ × M)
  tagged chapter marks = map (λ m. (chapter, m)) marks

  -- the marks that are kept for a chapter
  abbrev pub in_chapter : ℕ → List (ℕ × M) → List M
  in_chapter chapter kept = map (λ x. x.1) (filter (λ x. x.0 == chapter) kept)

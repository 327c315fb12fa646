-- Histories with a mark more.
use Rattle.std.proofs.Common.{◌≡◌, ℕ, ◌+◌, ◌<◌, ◌≤◌, ltb, [], ◌∷◌, length, length-append, refl, sym, ap, ◌∙◌, subst, ⊎_elim, arith}
use Rattle.std.proofs.lemmas.Bool.{cases_lt, cond-true, cond-false, lt-ltb, le-ltb}
use Rattle.std.proofs.lemmas.List.Sums.{fold-append}
use Rattle.book_spec.specs.declared.pool_book.PoolMark.{PoolMark}
use Rattle.book_spec.specs.PoolCalls.{pools_after}
use Rattle.book_spec.specs.PoolHistory.{PoolHistory, marked, pools_of, most_marks, open_chapter, with_mark}
use Rattle.pool_core.specs.Keeping.{IsCounted}

-- a long chapter ends
pub opens_next : (h : PoolHistory) → 4096 ≤ length h.marks → open_chapter h ≡ record { chapter = h.chapter + 1; base = pools_of h; marks = [] }
unfolding open_chapter
opens_next h long = cond-false (ltb (length h.marks) most_marks) h (record { chapter = h.chapter + 1; base = pools_of h; marks = [] }) (le-ltb (length h.marks) most_marks long)

pub opens_same : (h : PoolHistory) → length h.marks < 4096 → open_chapter h ≡ h
unfolding open_chapter
opens_same h short = cond-true (ltb (length h.marks) most_marks) h (record { chapter = h.chapter + 1; base = pools_of h; marks = [] }) (lt-ltb (length h.marks) most_marks short)

-- then there are fewer marks than a chapter has
pub open_short : (h : PoolHistory) → length (open_chapter h).marks < 4096
open_short h = ⊎_elim
    (λ (short : length h.marks < 4096). subst (λ (x : PoolHistory). length x.marks < 4096) (sym (opens_same h short)) short)
    (λ (long : 4096 ≤ length h.marks). subst (λ (x : PoolHistory). length x.marks < 4096) (sym (opens_next h long)) (omega arith))
    (cases_lt (length h.marks) 4096)

-- and the book is as before
pub pools_of-open : (h : PoolHistory) → pools_of (open_chapter h) ≡ pools_of h
unfolding pools_of
pools_of-open h = ⊎_elim
    (λ (short : length h.marks < 4096). ap pools_of (opens_same h short))
    (λ (long : 4096 ≤ length h.marks). ap pools_of (opens_next h long))
    (cases_lt (length h.marks) 4096)

pub pools_of-mark : (m : PoolMark) (h : PoolHistory) → pools_of (with_mark m h) ≡ pools_after m.call m.answer (pools_of h)
unfolding pools_of with_mark
pools_of-mark m h = fold-append marked h.base h.marks (m ∷ [])

pub marks-mark : (m : PoolMark) (h : PoolHistory) → length (with_mark m h).marks ≡ length h.marks + 1
unfolding with_mark
marks-mark m h = length-append h.marks (m ∷ [])

pub chapter-mark : (m : PoolMark) (h : PoolHistory) → (with_mark m h).chapter ≡ h.chapter
unfolding with_mark
chapter-mark m h = refl

pub counted-mark : (chapter marks : ℕ) (m : PoolMark) (h : PoolHistory) → IsCounted chapter marks h → IsCounted chapter (marks + 1) (with_mark m h)
counted-mark chapter marks m h is = record {
  chapter_is = is.chapter_is ∙ sym (chapter-mark m h);
  marks_are = ap (λ (n : ℕ). n + 1) is.marks_are ∙ sym (marks-mark m h);
}

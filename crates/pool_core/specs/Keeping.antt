-- What a turn cell sees in the book.
use Rattle.std.specs.Prelude.{◌≡◌, ℕ, ◌≤◌, [], length, Some}
use Rattle.std.proofs.Common.{le_refl}
use Rattle.turn_cell.specs.Meaning.{Meaning, NoMarkLowers, NewBaseKeeps}
use Rattle.book_spec.specs.declared.pool_book.PoolMark.{PoolMark}
use Rattle.book_spec.specs.Pools.{Pools}
use Rattle.book_spec.specs.PoolHistory.{PoolHistory, pools_of, most_marks}

-- a pass keeps nothing in the book
abbrev pub meaning : Meaning PoolHistory Pools PoolMark (Unit {0})
meaning = record {
  history = λ h. h;
  next_base = λ h. pools_of h;
  rising = λ base marks. 0;
  whose = λ mark. Some mark.number;
  share = λ h number. tt;
  nothing = tt;
  any_base = [];
}

pub no_mark_lowers : NoMarkLowers meaning
no_mark_lowers b xs ys = le_refl 0

pub new_base_keeps : NewBaseKeeps meaning
new_base_keeps h = le_refl 0

-- the numbers that are kept at run time are those of the history
pub record IsCounted (chapter marks : ℕ) (told : PoolHistory) : Type 0 where
  pub chapter_is : chapter ≡ told.chapter
  pub marks_are : marks ≡ length told.marks

-- the table has the pools of the history, whose chapter is not longer than it may be
pub record IsKept (pools : Pools) (h : PoolHistory) : Type 0 where
  pub same : pools ≡ pools_of h
  pub short : length h.marks ≤ most_marks

-- What a turn cell sees in the list.
use Rattle.std.specs.Prelude.{◌≡◌, ℕ, ◌+◌, ◌≤◌, ◌^◌, List, [], length, Some}
use Rattle.std.proofs.Common.{le_refl}
use Rattle.turn_cell.specs.Meaning.{Meaning, NoMarkLowers, NewBaseKeeps}
use Rattle.book_spec.specs.declared.list.ListMark.{ListMark}
use Rattle.book_spec.specs.Slots.{Slots, holds_of, no_holds, all_holders}
use Rattle.book_spec.specs.ListHistory.{ListHistory, slots_of, most_marks}

abbrev pub meaning : Meaning ListHistory Slots ListMark (List ℕ)
meaning = record {
  history = λ h. h;
  next_base = λ h. slots_of h;
  rising = λ base marks. 0;
  whose = λ mark. Some mark.number;
  share = λ h number. holds_of number (slots_of h);
  nothing = no_holds;
  any_base = [];
}

pub no_mark_lowers : NoMarkLowers meaning
no_mark_lowers b xs ys = le_refl 0

pub new_base_keeps : NewBaseKeeps meaning
new_base_keeps h = le_refl 0

-- the numbers that are kept at run time are those of the history
pub record IsCounted (chapter marks : ℕ) (told : ListHistory) : Type 0 where
  pub chapter_is : chapter ≡ told.chapter
  pub marks_are : marks ≡ length told.marks

-- the table has the slots of the history, and a mark for each release that is still to come can be counted
pub record IsKept (slots : Slots) (h : ListHistory) : Type 0 where
  pub same : slots ≡ slots_of h
  pub roomy : length h.marks + all_holders slots ≤ 2 ^ 62 + most_marks

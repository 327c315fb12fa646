-- What a pass of the list knows once it has asked for a slot.
use Rattle.std.specs.Prelude.{◌≡◌, ℕ, ◌-◌, ◌<◌, List, [], ◌∷◌, length, slice_get, false, Some, Result}
use Rattle.types_base.specs.declared.caller.Front.{Front}
use Rattle.types_base.specs.declared.memory.OrNoMemory.{OrNoMemory}
use Rattle.book_spec.specs.declared.list.ListCall.{ListCall}
use Rattle.book_spec.specs.declared.list.ListFault.{ListFault}
use Rattle.book_spec.specs.declared.list.ListMark.{ListMark}
use Rattle.book_spec.specs.ListHistory.{ListHistory}
use Rattle.object_list.specs.Turns.{HasAsked, ListPassed, marks_of}

-- the place is the end of the history, and the mark is the last one there
pub record IsLast (front : Front) (h : ListHistory) (m : ListMark) : Type 0 where
  pub chapter : front.chapter ≡ h.chapter
  pub marks : front.marks ≡ length h.marks
  pub some : 0 < front.marks
  pub stands : slice_get h.marks (front.marks - 1) ≡ Some m

-- so it is of the mark of a call, where there is one
abbrev pub AreLast : Front → ListHistory → List ListMark → Type 0
AreLast front h [] = Unit {0}
AreLast front h (m ∷ ms) = IsLast front h m

-- a pass that had tickets left took a turn and asked for a slot; the place is that of the mark that it left
pub record HasHeld (c : ListCall) (result : Result ℕ (OrNoMemory ListFault)) (front : Front) (before after : ListPassed) : Type 0 where
  pub fresh : before.spent ≡ false
  pub asked : HasAsked c result before after
  pub place : AreLast front after.seen (marks_of before.number c result)

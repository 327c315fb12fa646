-- What the marks of a store say of the asks that it answered.
use Rattle.std.specs.Prelude.{◌≡◌, ◌<◌, ◌≤◌, ◌-◌, ℕ, List, [], ◌∷◌, filter, not, slice_get, Bool, true, false, Some}
use Rattle.virt_types.specs.Below.types_base.declared.caller.Front.{Front}
use Rattle.domain_spec.specs.Types.{Answer, Ask}
use Rattle.domain_spec.specs.Types.ask
use Rattle.def_keeper.specs.declared.mark.StoreAction.{StoreAction}
use Rattle.def_keeper.specs.declared.mark.StoreAction.TheVariants as action
use Rattle.def_keeper.specs.declared.mark.StoreMark.{StoreMark}
use Rattle.def_keeper.specs.Chapters.{by}
use Rattle.def_keeper.specs.Marks.{StoreHistory}
use Rattle.store_asks.specs.Told.{IsActionOf}

-- an ask that the store keeps a mark of
abbrev pub is_stored : Ask → Bool
is_stored (ask.Put d autostart) = true
is_stored (ask.Drop uuid) = true
is_stored (ask.WriteImage name kind running d bytes) = true
is_stored other = false

-- the asks of the store among these, with their answers
abbrev pub stored_in : List (Ask × Answer) → List (Ask × Answer)
stored_in report = filter (λ p. is_stored p.0) report

-- a change was only tried
abbrev pub is_tried : StoreAction → Bool
is_tried (action.Tried c) = true
is_tried other = false

-- the marks that give somebody an answer: all but those of what was only tried
abbrev pub answers_in : List (ℕ × StoreMark) → List (ℕ × StoreMark)
answers_in marks = filter (λ m. not (is_tried m.1.action)) marks

-- the mark says what became of this ask, and is at the place that the answer names; of a chapter that has ended the pass
-- keeps its own marks alone
pub record IsStored (number : ℕ) (seen : StoreHistory) (asked : Ask × Answer) (m : ℕ × StoreMark) : Type 0 where
  pub front : Front
  pub action : StoreAction
  pub is : m ≡ (front.chapter, by number action)
  pub answers : IsActionOf asked.0 front asked.1 action
  pub so_far : front.chapter ≤ seen.chapter
  pub some : 0 < front.marks
  pub place : front.chapter ≡ seen.chapter → slice_get seen.marks (front.marks - 1) ≡ Some (by number action)

-- the asks are those that these marks speak of, one by one
abbrev pub AreStored : ℕ → StoreHistory → List (Ask × Answer) → List (ℕ × StoreMark) → Type 0
AreStored number seen [] [] = Unit {0}
AreStored number seen (p ∷ ps) (m ∷ ms) = IsStored number seen p m × AreStored number seen ps ms
AreStored number seen ps ms = ⊥

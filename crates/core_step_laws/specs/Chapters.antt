-- A turn adds its marks to the chapter, or begins the next one.
use Rattle.std.specs.Prelude.{◌≡◌, ◌+◌, ℕ, List, []}
use Rattle.history_spec.specs.declared.history.History.{History}
use Rattle.history_spec.specs.Chapter.{GoesOn, added}
use Rattle.domain_spec.specs.declared.core_step.CoreStep.{CoreStep}
use Rattle.domain_spec.specs.declared.core_step.CoreStep.TheVariants as step
use Rattle.domain_spec.specs.declared.mark.Mark.{Mark}
use Rattle.domain_spec.specs.declared.standing.Base.{Base}
use Rattle.domain_spec.specs.Cell.{Cell, standing_of}
use Rattle.domain_spec.specs.Chapter.{next_base}
use Rattle.domain_spec.specs.Turns.{IsTurn, Leads}

-- the chapter of this number, with the base and the marks of the cell
abbrev pub history_at : ℕ → Cell → History Base (Mark ℕ)
history_at chapter c = record { chapter = chapter; base = c.base; marks = c.marks }

-- the number of the chapter after a step
abbrev pub IsNextChapter : CoreStep ℕ → ℕ → ℕ → Type 0
IsNextChapter (step.Rotate number who) before next = next ≡ before + 1
IsNextChapter other before next = next ≡ before

-- the marks of a step that are in the chapter after it
abbrev pub marks_kept : CoreStep ℕ → List (Mark ℕ) → List (Mark ℕ)
marks_kept (step.Rotate number who) left = []
marks_kept other left = left

-- the history goes on by the marks of the turn
pub record GoesOnBy (before next : ℕ) (c d : Cell) (marks : List (Mark ℕ)) : Type 0 where
  pub goes_on : GoesOn (next_base (standing_of c) c.registrations) (history_at before c) (history_at next d)
  pub added : added (history_at before c) (history_at next d) ≡ marks

-- a turn adds its marks to the chapter, or begins the next one
abbrev pub TurnsGoOn : Type 0
TurnsGoOn =
    (c d : Cell) (t : CoreStep ℕ) (left : List (Mark ℕ)) (before next : ℕ) → IsTurn c t left → Leads c t left d → IsNextChapter t before next
    → GoesOnBy before next c d (marks_kept t left)

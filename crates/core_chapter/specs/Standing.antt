-- What is in force after the marks of a chapter, as a cell keeps it.
use Rattle.std.specs.Prelude.{◌≡◌, ℕ, List, Option, None}
use Rattle.history_spec.specs.declared.history.History.{History}
use Rattle.history_spec.specs.declared.stamp.Stamp.{Stamp}
use Rattle.domain_spec.specs.Types.{State}
use Rattle.domain_spec.specs.declared.mark.Mark.{Mark}
use Rattle.domain_spec.specs.declared.open.OpenJob.{OpenJob}
use Rattle.domain_spec.specs.declared.open.OpenOperation.{OpenOperation}
use Rattle.domain_spec.specs.declared.standing.Base.{Base}
use Rattle.domain_spec.specs.declared.standing.Standing.{Standing}
use Rattle.domain_spec.specs.Fold.{at_base, standing}
use Rattle.domain_spec.specs.Legal.{IsLegal}
use Rattle.core_mark_laws.specs.Guests.{HasOwnGuest}
use Rattle.core_mark_laws.specs.Tidy.{IsTidy}
use Rattle.core_chapter.specs.Numbered.{all_numbered}

-- a chapter's history, and for how many more marks there is room
pub record HistoryWithRoom : Type 0 where
  pub history : History Base (Mark Stamp)
  pub spare : ℕ

-- what is in force after these marks
unfoldable pub in_force : Base → List (Mark Stamp) → Standing
in_force b marks = standing (at_base b) (all_numbered marks)

-- the history is legal, and what is in force after it is this; no loss is left to be marked, no domain
-- without a stored definition has autostart, and beside an operation no guest runs but its own
pub record Stands (b : Base) (marks : List (Mark Stamp)) (s : State) (j : Option OpenJob) (o : Option OpenOperation) : Type 0 where
  pub legal : IsLegal (at_base b) (all_numbered marks)
  pub state : (in_force b marks).state ≡ s
  pub job : (in_force b marks).job ≡ j
  pub operation : (in_force b marks).operation ≡ o
  pub lost : (in_force b marks).lost ≡ None
  pub tidy : IsTidy s
  pub guest : HasOwnGuest s o

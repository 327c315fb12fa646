-- Laws of sessions over rows of passes.
use Rattle.std.specs.Prelude.{Bool, List, ◌++◌, ◌∷◌}
use Rattle.outcome_spec.specs.Rows.{KnownRow}
use Rattle.procedure_spec.specs.declared.procedure.Procedure.{Procedure}
use Rattle.row_courses.specs.Apart.{AreApart}
use Rattle.row_courses.specs.Outcomes.{IsOutcome, RowGoes, ShowsOutcomes}
use Rattle.service_spec.specs.Activities.{Activity, Hand}
use Rattle.service_spec.specs.Calls.{Runs, RunsAll}
use Rattle.service_spec.specs.Laws.{IsShown}
use Rattle.service_spec.specs.Saying.{Answer}
use Rattle.virt_types.specs.Below.types_base.declared.caller.Who.{Who}
use Rattle.virt_types.specs.declared.request.Request.{Request}
use Rattle.virt_types.specs.declared.value.Reply.{Reply}

module _ {W : Type 0} (serves : Procedure → Bool) (Called : Who → Request → Reply → Hand W → Hand W → Type 0) where
  -- where each call of the service shows an outcome, each answer's holds from the row with which its call began to the row
  -- that comes back
  abbrev pub AnswersHold : Type 0
  AnswersHold = (known : W → KnownRow) → ShowsOutcomes known Called → (first last : Activity W) (front others : List Answer) (one : Answer)
      → RunsAll serves Called first (front ++ one ∷ others) last → IsShown serves Called (IsOutcome known) first last front others one

  -- and the row that comes back has gone on
  abbrev pub RowsGoOn : Type 0
  RowsGoOn = (known : W → KnownRow) → ShowsOutcomes known Called → (first last : Activity W) (all : List Answer) → RunsAll serves Called first all last → RowGoes known first.at_hand last.at_hand

  -- of these calls two were run, apart: what one left is not what the other left, and that one saw no less than this one
  pub record RunApart (known : W → KnownRow) (start end : Activity W) (front between others : List Answer) (one other : Answer) : Type 0 where
    pub first : Activity W
    pub then : Activity W
    pub later : Activity W
    pub last : Activity W
    pub earlier : RunsAll serves Called start front first
    pub one_runs : Runs serves Called first one then
    pub amid : RunsAll serves Called then between later
    pub other_runs : Runs serves Called later other last
    pub rest : RunsAll serves Called last others end
    pub apart : AreApart (known first.at_hand.row) (known then.at_hand.row) (known later.at_hand.row) (known last.at_hand.row)

  -- no two calls of a row rest on one mark
  abbrev pub CallsAreApart : Type 0
  CallsAreApart = (known : W → KnownRow) → ShowsOutcomes known Called → (start end : Activity W) (front between others : List Answer) (one other : Answer)
      → RunsAll serves Called start (front ++ one ∷ (between ++ other ∷ others)) end → RunApart known start end front between others one other

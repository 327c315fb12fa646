-- What the answers of calls rest on holds to the end, and two calls are apart.
use Rattle.std.proofs.Common.{Bool, List, ◌++◌, ◌∷◌}
use Rattle.outcome_spec.proofs.Going.{answers_stay}
use Rattle.outcome_spec.specs.Rows.{KnownRow}
use Rattle.procedure_spec.specs.declared.procedure.Procedure.{Procedure}
use Rattle.row_courses.proofs.Rows.{apart_rows, gone_itself, gone_through}
use Rattle.row_courses.specs.Laws.{AnswersHold, CallsAreApart, RowsGoOn}
use Rattle.row_courses.specs.Outcomes.{IsOutcome, RowGoes, ShowsOutcomes, outcome}
use Rattle.service_spec.proofs.Running.{answers_last, rows_go, runs_in_turn}
use Rattle.service_spec.specs.Activities.{Activity, Hand}
use Rattle.service_spec.specs.Laws.{Lasts}
use Rattle.virt_types.specs.Below.types_base.declared.caller.Who.{Who}
use Rattle.virt_types.specs.declared.request.Request.{Request}
use Rattle.virt_types.specs.declared.value.Reply.{Reply}

outcomes_last : {W : Type 0} (Called : Who → Request → Reply → Hand W → Hand W → Type 0) (known : W → KnownRow) → ShowsOutcomes known Called → Lasts Called (IsOutcome known) (RowGoes known)
outcomes_last Called known shows = record {
  goes = λ who asked said before after called. (shows who asked said before after called).gone;
  shows = λ who asked said before after called. let it = shows who asked said before after called in record { cell = it.cell; front = it.front; holds = it.holds };
  still = λ at. gone_itself (known at.row);
  through = λ before at after h k. gone_through (known before.row) (known at.row) (known after.row) h k;
  stays = λ asked said before at after o on. record { cell = o.cell; front = o.front; holds = answers_stay (known before.row) (known at.row) (known after.row) asked (outcome said o.cell o.front) o.holds on };
}

module _ {W : Type 0} (serves : Procedure → Bool) (Called : Who → Request → Reply → Hand W → Hand W → Type 0) where
  pub answers_hold : AnswersHold serves Called
  answers_hold known shows first last front others one ran = answers_last serves Called (IsOutcome known) (RowGoes known) (outcomes_last Called known shows) first last front others one ran

  pub rows_go_on : RowsGoOn serves Called
  rows_go_on known shows first last all ran = rows_go serves Called (IsOutcome known) (RowGoes known) (outcomes_last Called known shows) first last all ran

  pub calls_apart : CallsAreApart serves Called
  calls_apart known shows start end front between others one other ran =
      let split = runs_in_turn serves Called start end front (one ∷ (between ++ other ∷ others)) ran in
      let at_one = split.2 in
      let rest = runs_in_turn serves Called at_one.0 end between (other ∷ others) at_one.2 in
      let at_other = rest.2 in
      let gone = rows_go_on known shows at_one.0 rest.0 between rest.1 in
      record {
        first = split.0;
        then = at_one.0;
        later = rest.0;
        last = at_other.0;
        earlier = split.1;
        one_runs = at_one.1;
        amid = rest.1;
        other_runs = at_other.1;
        rest = at_other.2;
        apart = apart_rows (known (split.0).at_hand.row) (known (at_one.0).at_hand.row) (known (rest.0).at_hand.row) (known (at_other.0).at_hand.row) gone;
      }

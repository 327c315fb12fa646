-- What a call shows of the row with which it was run.
use Rattle.outcome_spec.specs.Now.{ReadsNow}
use Rattle.outcome_spec.specs.Outcomes.{HasOutcome}
use Rattle.outcome_spec.specs.Rows.{HasGone, KnownRow}
use Rattle.outcome_spec.specs.declared.outcome.Outcome.{Outcome}
use Rattle.service_spec.specs.Activities.{Hand}
use Rattle.virt_types.specs.Below.types_base.declared.caller.CellName.{CellName}
use Rattle.virt_types.specs.Below.types_base.declared.caller.Front.{Front}
use Rattle.virt_types.specs.Below.types_base.declared.caller.Who.{Who}
use Rattle.virt_types.specs.declared.request.Request.{Request}
use Rattle.virt_types.specs.declared.value.Reply.{Reply}

-- an outcome with this reply
abbrev pub outcome : Reply → CellName → Front → Outcome
outcome said cell front = record { reply = said; cell = cell; front = front }

module _ {W : Type 0} (known : W → KnownRow) where
  -- the reply is that of an outcome, which rests on what this row knows
  pub record IsOutcome (asked : Request) (said : Reply) (before after : Hand W) : Type 0 where
    pub cell : CellName
    pub front : Front
    pub holds : HasOutcome (known before.row) (known after.row) asked (outcome said cell front)

  -- the row went on
  abbrev pub RowGoes : Hand W → Hand W → Type 0
  RowGoes before after = HasGone (known before.row) (known after.row)

  -- what a call that was just run shows: its outcome, where a read is of what the row has seen now, and that the row went on
  pub record IsCalled (asked : Request) (said : Reply) (before after : Hand W) : Type 0 where
    pub cell : CellName
    pub front : Front
    pub holds : HasOutcome (known before.row) (known after.row) asked (outcome said cell front)
    pub now : ReadsNow (known after.row) asked (outcome said cell front)
    pub gone : RowGoes before after

  -- each call shows this
  abbrev pub ShowsOutcomes : (Who → Request → Reply → Hand W → Hand W → Type 0) → Type 0
  ShowsOutcomes Called = (who : Who) (asked : Request) (said : Reply) (before after : Hand W) → Called who asked said before after → IsCalled asked said before after

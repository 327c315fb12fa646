-- What a request of a session came to in the driver.
use Rattle.std.specs.Prelude.{ℕ, List, Option}
use Rattle.driver.specs.Called.{HasCalled}
use Rattle.driver_service.specs.Saying.{IsSaid}
use Rattle.files_disk.specs.Telling.{Told}
use Rattle.driver.specs.Below.held_tasks.OfOutcomes.{HasGone, HasOutcome, Outcome, ReadsNow}
use Rattle.driver.specs.Below.held_tasks.OfRows.{DriverRow, KeepsParts, known_row}
use Rattle.service_spec.specs.Activities.{Hand}
use Rattle.virt_types.specs.Drawn.{IsMadeOfDrawn}
use Rattle.virt_types.specs.declared.ask.GuestEvent.{GuestEvent}
use Rattle.virt_types.specs.Below.types_base.declared.caller.Who.{Who}
use Rattle.virt_types.specs.declared.request.Request.{Request}
use Rattle.virt_types.specs.declared.value.Reply.{Reply}

module _ {F G E : Type 0} (told : F → Told) (store_faults : F → ℕ) (maker : G → ℕ) (ends faults : E → ℕ) (unheard : E → Option (List GuestEvent)) where
  -- the driver was called, with exactly the words drawn, and came to this outcome
  pub record HasOutcomeOf (who : Who) (asked : Request) (o : Outcome) (before after : Hand (DriverRow G)) : Type 0 where
    pub called : IsMadeOfDrawn (λ words. HasCalled told maker ends faults unheard store_faults who asked words before.row after.row o) before.drawn after.drawn
    pub outcome : HasOutcome (known_row before.row) (known_row after.row) asked o
    pub now : ReadsNow (known_row after.row) asked o
    pub gone : HasGone (known_row before.row) (known_row after.row)
    pub parts : KeepsParts before.row after.row

  -- and the caller was told so
  pub record HasCalledDriver (who : Who) (asked : Request) (said : Reply) (before after : Hand (DriverRow G)) : Type 0 where
    pub o : Outcome
    pub came : HasOutcomeOf who asked o before after
    pub said_is : IsSaid asked o.reply said

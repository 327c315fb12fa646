-- Whoever calls a driver keeps the parts of its row's passes, also through a whole session.
use Rattle.std.proofs.Common.{◌∙◌, ◌++◌, ℕ, List, Option, refl}
use Rattle.driver_crossing.specs.Below.driver_service.Calling.{HasCalledDriver}
use Rattle.driver_crossing.specs.Below.driver_service.Serving.{is_served}
use Rattle.files_disk.specs.Telling.{Told}
use Rattle.driver_crossing.specs.Below.held_tasks.OfRows.{DriverRow, KeepsParts}
use Rattle.service_spec.proofs.Running.{courses_run, rows_go}
use Rattle.service_spec.specs.Activities.{Activity, Hand, call_of}
use Rattle.service_spec.specs.Course.{HasServed, reader}
use Rattle.service_spec.specs.Laws.{Lasts}
use Rattle.service_spec.specs.Saying.{answers}
use Rattle.session_spec.specs.declared.end.End.{End}
use Rattle.virt_types.specs.declared.ask.GuestEvent.{GuestEvent}
use Rattle.virt_types.specs.Below.types_base.declared.caller.Who.{Who}
use Rattle.virt_types.specs.declared.request.Request.{Request}
use Rattle.virt_types.specs.declared.value.Reply.{Reply}

module _ {G : Type 0} where
  pub keeps_itself : (row : DriverRow G) → KeepsParts row row
  keeps_itself row = record { list = refl; store = refl; domains = refl }

  keeps_through : (a b c : DriverRow G) → KeepsParts a b → KeepsParts b c → KeepsParts a c
  keeps_through a b c one other = record { list = other.list ∙ one.list; store = other.store ∙ one.store; domains = other.domains ∙ one.domains }

  -- of a reply nothing is asked here
  abbrev NoMore : Request → Reply → Hand (DriverRow G) → Hand (DriverRow G) → Type 0
  NoMore asked said before after = Unit {0}

  abbrev Keeps : Hand (DriverRow G) → Hand (DriverRow G) → Type 0
  Keeps before after = KeepsParts before.row after.row

module _ {F G E : Type 0} (told : F → Told) (store_faults : F → ℕ) (maker : G → ℕ) (ends faults : E → ℕ) (unheard : E → Option (List GuestEvent)) where
  abbrev Called : Who → Request → Reply → Hand (DriverRow G) → Hand (DriverRow G) → Type 0
  Called = HasCalledDriver told store_faults maker ends faults unheard

  calls_keep : Lasts Called NoMore Keeps
  calls_keep = record {
    goes = λ who asked said before after called. called.came.parts;
    shows = λ who asked said before after called. tt;
    still = λ at. keeps_itself at.row;
    through = λ before at after one other. keeps_through before.row at.row after.row one other;
    stays = λ asked said before at after shown on. tt;
  }

  -- a session keeps them
  pub session_keeps : (session : ℕ) (before : Hand (DriverRow G)) (left now held wrote : Option (List ℕ)) (ending : End) (after : Hand (DriverRow G)) → HasServed is_served Called session before left now held wrote ending after → KeepsParts before.row after.row
  session_keeps session before left now held wrote ending after (count, course) =
      let first : Activity (DriverRow G) = record { at_hand = before; next = call_of session reader 0 } in
      let last : Activity (DriverRow G) = record { at_hand = after; next = call_of session reader count } in
      let ran = courses_run is_served Called first last left now held wrote ending course in
      rows_go is_served Called NoMore Keeps calls_keep first last (answers course.log ++ ran.0) ran.2

-- The first requests of a daemon, made one after the other before anybody is served.
use Rattle.std.specs.Prelude.{◌≡◌, ℕ, List, [], ◌∷◌, Option}
use Rattle.driver_service.specs.Calling.{HasOutcomeOf}
use Rattle.files_disk.specs.Telling.{Told}
use Rattle.driver_service.specs.Below.held_tasks.OfOutcomes.{Outcome}
use Rattle.driver_service.specs.Below.held_tasks.OfRows.{DriverRow}
use Rattle.service_spec.specs.Activities.{Hand, call_of, next_who}
use Rattle.service_spec.specs.Course.{reader}
use Rattle.virt_types.specs.declared.ask.GuestEvent.{GuestEvent}
use Rattle.virt_types.specs.Below.types_base.declared.caller.Who.{Who}
use Rattle.virt_types.specs.declared.request.Request.{Request}

-- the call by which the n-th of them is made: those of session 0
abbrev pub first_call : ℕ → Who
first_call n = call_of 0 reader n

module _ {F G E : Type 0} (told : F → Told) (store_faults : F → ℕ) (maker : G → ℕ) (ends faults : E → ℕ) (unheard : E → Option (List GuestEvent)) where
  -- these requests came to these outcomes, one after the other, from this call on
  abbrev pub HasMade : Who → List Request → List Outcome → Hand (DriverRow G) → Hand (DriverRow G) → Type 0
  HasMade who [] [] before after = after ≡ before
  HasMade who (r ∷ rs) (o ∷ os) before after = (then : Hand (DriverRow G)) × HasOutcomeOf told store_faults maker ends faults unheard who r o before then × HasMade (next_who who) rs os then after
  HasMade who rs os before after = ⊥

-- A loop that changes each entry of a list.
use Rattle.std.specs.Prelude.{◌≡◌, ℕ, List, ◌++◌, drop, map, take}
use Rattle.domain_spec.specs.Types.{Transition}
use Rattle.domain_spec.specs.declared.mark.Mark.{Mark}
use Rattle.domain_spec.specs.Registrations.{with_pending}
use Rattle.event_queue.specs.Listening.{Listening, hears, registrations}
use Rattle.event_queue.specs.Telling.{cuts_due}

-- the first so many heard these transitions, and their cuts came after the others
pub record HeardTo (events : List Transition) (old new : List Listening) (before left : List (Mark ℕ)) (place : ℕ) : Type 0 where
  pub now : new ≡ map (hears events) (take place old) ++ drop place old
  pub cuts : left ≡ before ++ cuts_due (map (with_pending events) (registrations (take place old)))

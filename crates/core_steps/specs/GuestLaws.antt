-- Laws of what guests do by themselves.
use Rattle.std.specs.Prelude.{◌≡◌, ◌<◌, ℕ, List, Option}
use Rattle.domain_spec.specs.Types.{EndReason}
use Rattle.domain_spec.specs.declared.core_step.CoreStep.TheVariants as step
use Rattle.domain_spec.specs.Cell.{HeldEvent, LentEars, Queue}
use Rattle.domain_spec.specs.Reading.{is_live}
use Rattle.domain_spec.specs.Turns.{AllHaveRoom}
use Rattle.event_queue.specs.Listening.{registrations}
use Rattle.core_log.specs.Record.{Recorded, force_of}
use Rattle.core_steps.specs.Rooms.{IsKept}
use Rattle.core_steps.specs.Turning.{FitsJob, IsSettled, Takes, turning}
use Rattle.core_steps.specs.Guests.{AreUntold, Exits, Happens, applies_now, ears_told, event_marks, exit_marks, held_with}

-- a boot's end, with what is told of it, is one step of the cell
abbrev pub ExitsAreTurns : Type 0
ExitsAreTurns =
    (old new : Recorded) (q : Queue) (held : List HeldEvent) (ears : Option LentEars) (boot : ℕ) (why : EndReason) → IsSettled old → IsSettled new → AllHaveRoom (registrations old.listeners) → FitsJob (force_of old).job held → Exits boot why old new
    → Takes (turning old q held ears) (turning new q held (ears_told ears)) (step.Exit boot why) (λ left. left ≡ exit_marks (is_live (force_of old).state boot) boot why old.listeners)

-- a guest's event, be it marked, held or dropped, is one step of the cell
abbrev pub EventsAreTurns : Type 0
EventsAreTurns =
    (old new : Recorded) (q : Queue) (held : List HeldEvent) (ears : Option LentEars) (h : HeldEvent) → IsSettled old → IsSettled new → AllHaveRoom (registrations old.listeners) → FitsJob (force_of old).job held → Happens (force_of old).job h old new
    → Takes (turning old q held ears) (turning new q (held_with (force_of old) (force_of old).job h held) (ears_told ears)) (step.Event h.boot h.event)
    (λ left. left ≡ event_marks (applies_now (force_of old) (force_of old).job h.boot) h (force_of old).state old.listeners)

-- ears that have told nothing have room for what they tell
abbrev pub EarsHaveRoom : Type 0
EarsHaveRoom =
    (r : Recorded) (held : List HeldEvent) (ears : Option LentEars) (rooms boot : ℕ) → IsKept r held ears rooms → AreUntold ears boot → (0 < r.spare) × (0 < rooms)

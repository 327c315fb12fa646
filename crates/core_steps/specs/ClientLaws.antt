-- Laws of clients and chapters.
use Rattle.std.specs.Prelude.{◌≡◌, ◌⊎◌, ℕ, List, [], ◌∷◌, true, Option, Result}
use Rattle.domain_spec.specs.Types.{Call, Who}
use Rattle.domain_spec.specs.declared.core_step.CoreStep.TheVariants as step
use Rattle.domain_spec.specs.declared.core_step.First.{First}
use Rattle.domain_spec.specs.declared.mark.Mark.TheVariants as mark
use Rattle.domain_spec.specs.CanTake.{CanTake}
use Rattle.domain_spec.specs.Cell.{HeldEvent, LentEars, Queue}
use Rattle.domain_spec.specs.Kept.{left_queue}
use Rattle.domain_spec.specs.Turns.{AllHaveRoom}
use Rattle.event_queue.specs.Listening.{AreApart, dropped_by, has_client, listening_of, registrations, taken_by}
use Rattle.core_log.specs.Record.{IsQuietOf, Recorded, force_of}
use Rattle.core_steps.specs.Turning.{FitsJob, IsSettled, Takes, Turning, cell_of, turning}
use Rattle.core_steps.specs.declared.watching.WatchFault.{WatchFault}
use Rattle.core_steps.specs.Clients.{BeginsNext, IsRegisteredBy, Leaves, Watches, watch_marks}

-- what became of a client that wanted to register is one step of the cell
abbrev pub WatchesAreTurns : Type 0
WatchesAreTurns =
    (old new : Recorded) (q : Queue) (held : List HeldEvent) (ears : Option LentEars) (n : ℕ) (result : Result ℕ WatchFault) → IsSettled old → IsSettled new → AllHaveRoom (registrations old.listeners) → FitsJob (force_of old).job held → Watches n old new result
    → Takes (turning old q held ears) (turning new q held ears) (step.Watch n) (λ left. left ≡ watch_marks n result)

-- the end of a registration is one step of the cell
abbrev pub LeavesAreTurns : Type 0
LeavesAreTurns =
    (old new : Recorded) (q : Queue) (held : List HeldEvent) (ears : Option LentEars) (n client : ℕ) → IsSettled old → IsSettled new → AllHaveRoom (registrations old.listeners) → FitsJob (force_of old).job held → Leaves n client old new
    → Takes (turning old q held ears) (turning new q held ears) (step.Unwatch n client) (λ left. left ≡ mark.Unwatch n client ∷ [])

-- one step by which a client takes what pends for it
abbrev pub IsTaking : ℕ → ℕ → Turning → Turning → Type 0
IsTaking n client old new = Takes old new (step.Take n client) (λ left. left ≡ [])

-- what a client takes is one step of the cell
abbrev pub TakesAreTurns : Type 0
TakesAreTurns =
    (old : Recorded) (q : Queue) (held : List HeldEvent) (ears : Option LentEars) (n client : ℕ) → IsSettled old → AllHaveRoom (registrations old.listeners) → FitsJob (force_of old).job held → IsRegisteredBy (listening_of old.listeners client) n
    → IsTaking n client (turning old q held ears) (turning (record old { listeners = taken_by old.listeners client }) q held ears)

-- what is let go of is one such step, or two
abbrev pub IsDropping : ℕ → ℕ → Turning → Turning → Type 0
IsDropping n client old new = IsTaking n client old new ⊎ ((mid : Turning) × IsTaking n client old mid × IsTaking n client mid new)

-- what is let go of for a client is one step of the cell, or two
abbrev pub DropsAreTurns : Type 0
DropsAreTurns =
    (old : Recorded) (q : Queue) (held : List HeldEvent) (ears : Option LentEars) (n client : ℕ)
    → IsSettled old → AllHaveRoom (registrations old.listeners) → FitsJob (force_of old).job held → AreApart old.listeners → IsRegisteredBy (listening_of old.listeners client) n
    → IsDropping n client (turning old q held ears) (turning (record old { listeners = dropped_by old.listeners client }) q held ears)

-- a chapter's end is one step of the cell
abbrev pub RotatesAreTurns : Type 0
RotatesAreTurns =
    (old new : Recorded) (q : Queue) (held : List HeldEvent) (ears : Option LentEars) (n : ℕ) (who : Who)
    → CanTake (cell_of old q held ears) (step.Rotate n who) → IsSettled old → AllHaveRoom (registrations old.listeners) → FitsJob (force_of old).job held → BeginsNext old new
    → Takes (turning old q held ears) (turning new q held ears) (step.Rotate n who) (λ left. left ≡ [])

-- where there was no memory for a chapter's end, its call was a look that found none
abbrev pub UnrotatedAreLooks : Type 0
UnrotatedAreLooks =
    (r : Recorded) (q : Queue) (held : List HeldEvent) (ears : Option LentEars) (n : ℕ) (who : Who) (d : Call) (first : First)
    → CanTake (cell_of r q held ears) (step.Look n who d first) → IsSettled r → AllHaveRoom (registrations r.listeners) → FitsJob (force_of r).job held
    → Takes (turning r q held ears) (turning r (left_queue q n who) held ears) (step.Look n who d first) (λ left. left ≡ [])

-- the same of a call that begins an operation
abbrev pub UnrotatedAreBeginnings : Type 0
UnrotatedAreBeginnings =
    (r : Recorded) (q : Queue) (held : List HeldEvent) (ears : Option LentEars) (n : ℕ) (who : Who) (d : Call) → CanTake (cell_of r q held ears) (step.BeginOp n who d) → IsSettled r → AllHaveRoom (registrations r.listeners) → FitsJob (force_of r).job held
    → Takes (turning r q held ears) (turning r (left_queue q n who) held ears) (step.BeginOp n who d) (λ left. left ≡ [])

-- and of one that takes an operation up
abbrev pub UnrotatedAreTakingsUp : Type 0
UnrotatedAreTakingsUp =
    (r : Recorded) (q : Queue) (held : List HeldEvent) (ears : Option LentEars) (n : ℕ) (who : Who) (d : Call) → CanTake (cell_of r q held ears) (step.TakeUp n who d) → IsSettled r → AllHaveRoom (registrations r.listeners) → FitsJob (force_of r).job held
    → Takes (turning r q held ears) (turning r (left_queue q n who) held ears) (step.TakeUp n who d) (λ left. left ≡ [])

-- a client that can take is registered by the step's number
abbrev pub TakersAreRegistered : Type 0
TakersAreRegistered =
    (r : Recorded) (q : Queue) (held : List HeldEvent) (ears : Option LentEars) (n client : ℕ) → AreApart r.listeners → CanTake (cell_of r q held ears) (step.Take n client)
    → IsRegisteredBy (listening_of r.listeners client) n × (has_client r.listeners client ≡ true)

-- and nothing pends for one that can leave
abbrev pub LeaversAreQuiet : Type 0
LeaversAreQuiet =
    (r : Recorded) (q : Queue) (held : List HeldEvent) (ears : Option LentEars) (n client : ℕ) → AreApart r.listeners → CanTake (cell_of r q held ears) (step.Unwatch n client)
    → IsQuietOf (listening_of r.listeners client) n

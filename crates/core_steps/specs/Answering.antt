-- What an open call may be answered, and what the turn of its answer comes to.
use Rattle.std.specs.Prelude.{◌≡◌, ◌≤◌, ◌+◌, ℕ, List, [], length, true, false, Option, None, Some}
use Rattle.domain_spec.specs.Types.{Answer, Job}
use Rattle.domain_spec.specs.Types.job
use Rattle.domain_spec.specs.declared.core_step.CoreStep.TheVariants as step
use Rattle.domain_spec.specs.declared.open.OpenJob.{OpenJob}
use Rattle.domain_spec.specs.declared.standing.Standing.{Standing}
use Rattle.domain_spec.specs.Asks.{is_ended_answer}
use Rattle.domain_spec.specs.Call.{is_on_stored}
use Rattle.domain_spec.specs.Cell.{HeldEvent, share_of}
use Rattle.domain_spec.specs.Kept.{events_in}
use Rattle.core_log.specs.Below.core_plan.Along.{Asked, answered}
use Rattle.core_log.specs.Below.core_plan.Starving.{starved}
use Rattle.core_log.specs.Below.core_plan.Away.{IsUnsent}
use Rattle.core_log.specs.Below.core_plan.PhaseCopying.{with_answer}
use Rattle.core_log.specs.Below.core_flight.Ledger.{answered_in}
use Rattle.core_log.specs.Below.core_flight.declared.ledger.Back.{Back}
use Rattle.core_log.specs.Below.core_flight.declared.ledger.Back.TheVariants as back
use Rattle.core_log.specs.Record.{IsAsking, IsDoneWith, IsPhasedWith, Recorded, force_of}
use Rattle.core_steps.specs.Applying.{Applies}
use Rattle.core_steps.specs.Ending.{EndsFirst}
use Rattle.core_steps.specs.Phased.{HasPhased}
use Rattle.core_steps.specs.Turning.{AsksLast, HasDone, IsSettled, Takes, Turning}

-- an open call may be answered so: until the make of its boot is done its commands are not sent, and no call on the
-- stored definition is answered that a boot has ended; a phase may be answered anything
abbrev pub MayBeAnsweredAs : Job → Standing → OpenJob → Asked → Answer → Type 0
MayBeAnsweredAs job.Nested s j a x = Unit {0}
MayBeAnsweredAs other s j a x = IsUnsent s.operation j (answered a x) × (is_ended_answer x ≡ true → is_on_stored j.call ≡ false)

-- the same of what is open
abbrev pub MayBeAnswered : Standing → Option OpenJob → Option Asked → Answer → Type 0
MayBeAnswered s (Some j) (Some a) x = MayBeAnsweredAs j.job s j a x
MayBeAnswered s j a x = ⊥

-- the open call is of this number
abbrev pub IsNumbered : Option OpenJob → ℕ → Type 0
IsNumbered None n = ⊥
IsNumbered (Some j) n = n ≡ j.number

-- the answer that a boot has ended marks its end; then the call, or the phase, is done and the held events apply, or it
-- asks on
abbrev pub Answers : ℕ → Option Asked → Answer → List HeldEvent → Recorded → Recorded → Back → Type 0
Answers n None x held old new result = ⊥
Answers n (Some a) x held old new (back.Done r) =
    (mid : Recorded) × EndsFirst x old mid × (count : ℕ) × (done : Recorded) × IsDoneWith mid [] n (starved count (answered a x)) done r × IsSettled done × Applies held done new
Answers n (Some a) x held old new (back.Away y) =
    (mid : Recorded) × EndsFirst x old mid × (count : ℕ) × IsAsking mid [] (starved count (answered_in (force_of mid).job a x)) new y × IsNumbered (force_of new).job n
Answers n (Some a) x held old new (back.Phased st) =
    (mid : Recorded) × EndsFirst x old mid × (count : ℕ) × (done : Recorded) × IsPhasedWith mid [] n (starved count (with_answer a x)) done st × IsSettled done × Applies held done new

-- of the rooms for marks of a guest one that asks on takes none; one that is done takes at most one for the end of its
-- boot, and one for each held event
abbrev pub LeavesRooms : Back → List HeldEvent → ℕ → ℕ → Type 0
LeavesRooms (back.Away y) held before after = after ≡ before
LeavesRooms other held before after = before ≤ after + (length held + 1)

-- once the call, or the phase, is done nothing is held any more
abbrev pub held_after : Back → List HeldEvent → List HeldEvent
held_after (back.Away y) held = held
held_after other held = []

-- what the turn of an answer comes to
abbrev pub GoesBack : ℕ → Answer → Turning → Turning → Back → Type 0
GoesBack n x old new (back.Done r) = Takes old new (step.Back n x) (HasDone n r)
GoesBack n x old new (back.Away y) = Takes old new (step.Back n x) (λ left. (events_in left ≡ []) × AsksLast (share_of new.cell n).call y)
GoesBack n x old new (back.Phased st) = Takes old new (step.Back n x) (HasPhased n st old new)

-- the call is done, or asks on, or a phase asks on
abbrev pub IsNotPhased : Back → Type 0
IsNotPhased (back.Phased st) = ⊥
IsNotPhased other = Unit {0}

-- What the turns of clients leave of the share of their own number.
use Rattle.std.specs.Prelude.{◌≡◌, ℕ, ◌==◌, List, [], ◌∷◌, ◌++◌, filter, map, not, Result, Ok, Err, if◌then◌else◌}
use Rattle.domain_spec.specs.declared.core_step.CoreStep.TheVariants as step
use Rattle.domain_spec.specs.declared.mark.Mark.TheVariants as mark
use Rattle.domain_spec.specs.declared.standing.Registration.{Registration}
use Rattle.domain_spec.specs.CanTake.{IsRegistration}
use Rattle.domain_spec.specs.Cell.{Cell, Share, Taken, share_of}
use Rattle.domain_spec.specs.Registrations.{taken_from}
use Rattle.core_steps.specs.Turning.{Takes, Turning}
use Rattle.core_steps.specs.ClientLaws.{IsTaking}
use Rattle.core_steps.specs.Clients.{watch_marks}
use Rattle.core_steps.specs.declared.watching.WatchFault.{WatchFault}
use Rattle.core_step_laws.specs.Shares.{AreApart}

-- a client that registered has taken nothing yet; where it could not, all stays
abbrev pub IsWatched : {E : Type 0} → Result ℕ E → Share → Share → Type 0
IsWatched (Ok client) s t = t ≡ record s { registrations = s.registrations ++ record { client = client; taken = 0 } ∷ [] }
IsWatched (Err x) s t = t ≡ s

-- so it is with each client that registers
abbrev pub WatchesKeep : Type 0
WatchesKeep =
    (old new : Turning) (n : ℕ) (result : Result ℕ WatchFault) → Takes old new (step.Watch n) (λ left. left ≡ watch_marks n result)
    → IsWatched result (share_of old.cell n) (share_of new.cell n)

-- what was taken, but by this client
abbrev pub without_its : List Taken → ℕ → List Taken
without_its taken client = filter (λ t. not (t.client == client)) taken

-- a client that left has no registration any more; all else stays
abbrev pub UnwatchesKeep : Type 0
UnwatchesKeep =
    (old new : Turning) (n client : ℕ) → Takes old new (step.Unwatch n client) (λ left. left ≡ mark.Unwatch n client ∷ [])
    → share_of new.cell n ≡ record (share_of old.cell n) { registrations = without_its (share_of old.cell n).registrations client }

-- what a registration has taken once it took all that pended; it is gone where its loss was told
abbrev pub taken_then : Registration → List Taken
taken_then r = map (λ x. record { client = x.client; taken = x.taken }) (taken_from r)

-- what was taken, where this is so for this client now
abbrev pub with_its : List Taken → ℕ → List Taken → List Taken
with_its [] client now = []
with_its (t ∷ taken) client now = if t.client == client then now ++ taken else t ∷ with_its taken client now

-- a client took what pended for its registration; all else stays
abbrev pub HasTaken : Cell → ℕ → ℕ → Share → Share → Type 0
HasTaken c n client s t =
    (r : Registration) × IsRegistration c n client r × (t ≡ record s { registrations = with_its s.registrations client (taken_then r) })

-- so it is with each client that takes, where no two registrations are one client's
abbrev pub TakesKeep : Type 0
TakesKeep =
    (old new : Turning) (n client : ℕ) → AreApart old.cell.registrations → IsTaking n client old new
    → HasTaken old.cell n client (share_of old.cell n) (share_of new.cell n)

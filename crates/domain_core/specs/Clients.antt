-- What became of a client that wanted to register, and who waits.
use Rattle.std.specs.Prelude.{◌≡◌, ℕ, true, false, Result, Err}
use Rattle.domain_spec.specs.declared.core_step.CoreStep.TheVariants as step
use Rattle.domain_spec.specs.Cell.{Queue, standing_of}
use Rattle.domain_spec.specs.TakeUp.{is_vacant}
use Rattle.event_queue.specs.Listening.{AreAllTaken}
use Rattle.core_steps.specs.Turning.{Takes, Turning}
use Rattle.core_steps.specs.Clients.{watch_marks}
use Rattle.core_steps.specs.declared.watching.WatchFault.{WatchFault}
use Rattle.core_steps.specs.declared.watching.WatchFault.TheVariants as fault

-- why a client was not registered
abbrev pub IsWhy : Turning → Result ℕ WatchFault → Type 0
IsWhy t (Err fault.Vacant) = is_vacant (standing_of t.cell).state ≡ true
IsWhy t (Err (fault.Full count)) = (is_vacant (standing_of t.cell).state ≡ false) × AreAllTaken t.listeners × (count ≡ 16)
IsWhy t other = Unit {0}

-- it was registered in this turn, by one mark; or nothing changed
pub record WatchesSo (n : ℕ) (old new : Turning) (result : Result ℕ WatchFault) : Type 0 where
  pub turn : Takes old new (step.Watch n) (λ left. left ≡ watch_marks n result)
  pub why : IsWhy old result

-- the same, for which these wait
abbrev pub with_queue : Turning → Queue → Turning
with_queue t q = record t { cell = record t.cell { queue = q } }

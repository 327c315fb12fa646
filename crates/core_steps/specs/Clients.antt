-- Who is registered for a domain, and the chapters of its history: what each turn of these leaves.
use Rattle.std.specs.Prelude.{◌≡◌, ℕ, ◌+◌, List, [], ◌∷◌, ◌++◌, false, true, Option, None, Some, Result, Ok, Err}
use Rattle.domain_spec.specs.Types.{Who}
use Rattle.domain_spec.specs.declared.mark.Mark.{Mark}
use Rattle.domain_spec.specs.declared.mark.Mark.TheVariants as mark
use Rattle.domain_spec.specs.Cell.{Queue}
use Rattle.domain_spec.specs.Chapter.{next_base}
use Rattle.domain_spec.specs.Kept.{left_queue}
use Rattle.domain_spec.specs.TakeUp.{is_vacant}
use Rattle.event_queue.specs.Listening.{AreAllTaken, IsLeastFree, Listening, left_by, listening_of, new_listening, registrations}
use Rattle.core_log.specs.Record.{HasMarked, IsQuietOf, Recorded, force_of}
use Rattle.core_steps.specs.Looking.{with_room}
use Rattle.core_steps.specs.declared.watching.WatchFault.{WatchFault}
use Rattle.core_steps.specs.declared.watching.WatchFault.TheVariants as fault

-- the registration is there, and of this number
abbrev pub IsRegisteredBy : Option Listening → ℕ → Type 0
IsRegisteredBy None n = ⊥
IsRegisteredBy (Some l) n = l.kept.number ≡ n

-- a client registered under the least number that no registration has
pub record Registers (n client : ℕ) (old new : Recorded) : Type 0 where
  pub least : IsLeastFree old.listeners client
  pub domain : is_vacant (force_of old).state ≡ false
  pub marked : HasMarked old new (mark.Watch n client ∷ [])
  pub listeners : new.listeners ≡ old.listeners ++ new_listening n client ∷ []
  pub course : new.course ≡ old.course

-- what became of a client that wanted to register; but for the room nothing changes where it could not
abbrev pub Watches : ℕ → Recorded → Recorded → Result ℕ WatchFault → Type 0
Watches n old new (Ok client) = (spare : ℕ) × Registers n client (with_room old spare) new
Watches n old new (Err fault.Vacant) = (is_vacant (force_of old).state ≡ true) × (new ≡ old)
Watches n old new (Err (fault.Full count)) = (is_vacant (force_of old).state ≡ false) × AreAllTaken old.listeners × (count ≡ 16) × (new ≡ old)
Watches n old new (Err fault.NoMemory) = (is_vacant (force_of old).state ≡ false) × (new ≡ with_room old new.spare)

-- a client's registration ended
pub record Leaves (n client : ℕ) (old new : Recorded) : Type 0 where
  pub quiet : IsQuietOf (listening_of old.listeners client) n
  pub marked : HasMarked old new (mark.Unwatch n client ∷ [])
  pub listeners : new.listeners ≡ left_by old.listeners client
  pub course : new.course ≡ old.course

-- the next chapter begins with what was there
pub record BeginsNext (old new : Recorded) : Type 0 where
  pub history : new.history ≡ record { chapter = old.history.chapter + 1; base = next_base (force_of old) (registrations old.listeners); marks = [] }
  pub listeners : new.listeners ≡ old.listeners
  pub course : new.course ≡ old.course

-- a chapter ended; where there was no memory nothing changed but that the caller waits no more
abbrev pub Rotates : {E : Type 0} → ℕ → Who → Recorded → Recorded → Queue → Queue → Result (Unit {0}) E → Type 0
Rotates n who old new q p (Ok x) = BeginsNext old new × (p ≡ q)
Rotates n who old new q p (Err x) = (new ≡ old) × (p ≡ left_queue q n who)

-- the marks by which a client registered
abbrev pub watch_marks : {E : Type 0} → ℕ → Result ℕ E → List (Mark ℕ)
watch_marks n (Ok client) = mark.Watch n client ∷ []
watch_marks n (Err x) = []

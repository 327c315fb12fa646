-- What holds between two turns holds after one of a client, and after a chapter's end.
use Rattle.std.proofs.Common.{◌≡◌, ℕ, List, [], ◌∷◌, Bool, ◌||◌, if◌then◌else◌, true, false, OnOk, Option, None, Some, Result, Ok, Err, refl, sym, ap, ◌∙◌, subst}
use Rattle.domain_spec.specs.Types.{Who}
use Rattle.domain_spec.specs.declared.core_step.CoreStep.TheVariants as step
use Rattle.domain_spec.specs.declared.mark.Mark.TheVariants as mark
use Rattle.domain_spec.specs.declared.standing.Registration.{Registration}
use Rattle.domain_spec.specs.CanTake.{CanTake, IsQuiet}
use Rattle.domain_spec.specs.Cell.{HeldEvent, LentEars, Queue}
use Rattle.domain_spec.specs.Turns.{AllHaveRoom}
use Rattle.core_steps.specs.OfLedger.{WaitsWith}
use Rattle.core_steps.specs.Below.core_flight.Ledger.{standing_in}
use Rattle.event_queue.specs.Listening.{AreApart, Listening, dropped_by, has_client, is_of, listening_of, registrations, taken_by}
use Rattle.core_steps.specs.OfRecord.{IsQuietOf, Recorded, force_of}
use Rattle.core_steps.specs.Rooms.{HasEnd, IsKept}
use Rattle.core_steps.specs.Turning.{Takes, cell_of, turning}
use Rattle.core_steps.specs.declared.refusing.Refusable.{Refusable}
use Rattle.domain_core.specs.Clients.{IsWhy, WatchesSo}
use Rattle.domain_core.specs.Core.{Core, IsWhole, core_of}
use Rattle.core_steps.specs.ClientLaws.{IsDropping, IsTaking}
use Rattle.core_steps.specs.Clients.{BeginsNext, IsRegisteredBy, Leaves, Rotates, Watches}
use Rattle.core_steps.specs.declared.watching.WatchFault.{WatchFault}
use Rattle.core_steps.specs.declared.watching.WatchFault.TheVariants as fault
use Rattle.core_steps.proofs.Finding.{own_found}
use Rattle.core_steps.proofs.Rotated.{rotates_are}
use Rattle.core_steps.proofs.Took.{drops_are, takes_are}
use Rattle.core_steps.proofs.Watched.{leaves_are, watches_are}

pub watch_keeps : (old new : Recorded) (q : Queue) (held : List HeldEvent) (ears : Option LentEars) (x : Option Refusable) (rooms places : ℕ) → IsWhole old q held ears x rooms places → IsKept new held ears rooms → HasEnd new rooms
    → IsWhole new q held ears None rooms places
watch_keeps old new q held ears x rooms places whole kept ends = record { kept = kept; ends = ends; places = whole.places; set_aside = tt }

why_of : (n : ℕ) (old new : Recorded) (q : Queue) (held : List HeldEvent) (ears : Option LentEars) (result : Result ℕ WatchFault) → Watches n old new result → IsWhy (turning old q held ears) result
unfolding standing_in
why_of n old new q held ears (Ok client) h = tt
why_of n old new q held ears (Err fault.Vacant) h = h.0
why_of n old new q held ears (Err (fault.Full count)) h = (h.0, h.1, h.2)
why_of n old new q held ears (Err fault.NoMemory) h = tt

pub watch_turn : (old new : Recorded) (q : Queue) (held : List HeldEvent) (ears : Option LentEars) (x : Option Refusable) (rooms places n : ℕ) (result : Result ℕ WatchFault) → IsWhole old q held ears x rooms places
    → (force_of old).lost ≡ None → WaitsWith (force_of old) (force_of old).job old.course → AllHaveRoom (registrations old.listeners)
    → (force_of new).lost ≡ None → WaitsWith (force_of new) (force_of new).job new.course → Watches n old new result
    → WatchesSo n (turning old q held ears) (turning new q held ears) result
watch_turn old new q held ears x rooms places n result whole lost waits room lost_now waits_now so = record {
  turn = watches_are old new q held ears n result (record { lost = lost; waits = waits }) (record { lost = lost_now; waits = waits_now }) room whole.kept.fits so;
  why = why_of n old new q held ears result so;
}

-- the registration that a step names is there

pub own_quiet : (r : Recorded) (q : Queue) (held : List HeldEvent) (ears : Option LentEars) (n client : ℕ) → CanTake (cell_of r q held ears) (step.Unwatch n client) → AreApart r.listeners → IsQuietOf (listening_of r.listeners client) n
own_quiet r q held ears n client can apart =
    let found = own_found r.listeners n client can.1.2 can.0 apart can.1.3 can.1.0 can.1.1 in
    subst (λ (o : Option Listening). IsQuietOf o n) (sym found.1)
    (ap (λ (y : Registration). y.number) found.2 ∙ can.1.0, subst (λ (y : Registration). IsQuiet y) (sym found.2) can.2)

pub leave_turn : (old new : Recorded) (q : Queue) (held : List HeldEvent) (ears : Option LentEars) (x : Option Refusable) (rooms places n client : ℕ) → IsWhole old q held ears x rooms places
    → (force_of old).lost ≡ None → WaitsWith (force_of old) (force_of old).job old.course → AllHaveRoom (registrations old.listeners)
    → (force_of new).lost ≡ None → WaitsWith (force_of new) (force_of new).job new.course → Leaves n client old new
    → Takes (turning old q held ears) (turning new q held ears) (step.Unwatch n client) (λ left. left ≡ mark.Unwatch n client ∷ [])
leave_turn old new q held ears x rooms places n client whole lost waits room lost_now waits_now so =
    leaves_are old new q held ears n client (record { lost = lost; waits = waits }) (record { lost = lost_now; waits = waits_now }) room whole.kept.fits so

some_if : (b more : Bool) (l : Listening) (o : Option Listening) (k : Listening) → (if b then Some l else o) ≡ Some k → (o ≡ Some k → more ≡ true) → (b || more) ≡ true
some_if true more l o k e rest = refl
some_if false more l o k e rest = rest e

some_there : (ls : List Listening) (client : ℕ) (k : Listening) → listening_of ls client ≡ Some k → has_client ls client ≡ true
some_there [] client k e = cc
some_there (l ∷ ls) client k e = some_if (is_of client l) (has_client ls client) l (listening_of ls client) k e (λ x. some_there ls client k x)

pub own_there : (r : Recorded) (q : Queue) (held : List HeldEvent) (ears : Option LentEars) (n client : ℕ) → CanTake (cell_of r q held ears) (step.Take n client) → AreApart r.listeners
    → (has_client r.listeners client ≡ true) × IsRegisteredBy (listening_of r.listeners client) n
own_there r q held ears n client can apart =
    let found = own_found r.listeners n client can.1.2 can.0 apart can.1.3 can.1.0 can.1.1 in (
      some_there r.listeners client found.0 found.1,
      subst (λ (o : Option Listening). IsRegisteredBy o n) (sym found.1) (ap (λ (y : Registration). y.number) found.2 ∙ can.1.0),
    )

pub take_turn : (old new : Recorded) (q : Queue) (held : List HeldEvent) (ears : Option LentEars) (x : Option Refusable) (rooms places n client : ℕ) → IsWhole old q held ears x rooms places
    → CanTake (cell_of old q held ears) (step.Take n client) → AreApart old.listeners → (force_of old).lost ≡ None → WaitsWith (force_of old) (force_of old).job old.course → AllHaveRoom (registrations old.listeners)
    → new ≡ record old { listeners = taken_by old.listeners client } → IsTaking n client (turning old q held ears) (turning new q held ears)
take_turn old new q held ears x rooms places n client whole can apart lost waits room is =
    subst (λ (r : Recorded). IsTaking n client (turning old q held ears) (turning r q held ears)) (sym is)
    (takes_are old q held ears n client (record { lost = lost; waits = waits }) room whole.kept.fits (own_there old q held ears n client can apart).1)

pub drop_turn : (old new : Recorded) (q : Queue) (held : List HeldEvent) (ears : Option LentEars) (x : Option Refusable) (rooms places n client : ℕ) → IsWhole old q held ears x rooms places
    → CanTake (cell_of old q held ears) (step.Take n client) → AreApart old.listeners → (force_of old).lost ≡ None → WaitsWith (force_of old) (force_of old).job old.course → AllHaveRoom (registrations old.listeners)
    → new ≡ record old { listeners = dropped_by old.listeners client } → IsDropping n client (turning old q held ears) (turning new q held ears)
drop_turn old new q held ears x rooms places n client whole can apart lost waits room is =
    subst (λ (r : Recorded). IsDropping n client (turning old q held ears) (turning r q held ears)) (sym is)
    (drops_are old q held ears n client (record { lost = lost; waits = waits }) room whole.kept.fits apart (own_there old q held ears n client can apart).1)

-- a chapter's end

pub rotate_free : (r : Recorded) (q : Queue) (held : List HeldEvent) (ears : Option LentEars) (n : ℕ) (who : Who) → CanTake (cell_of r q held ears) (step.Rotate n who) → (force_of r).job ≡ None
unfolding standing_in
rotate_free r q held ears n who can = can.1

pub rotate_turn : (old new : Recorded) (q p : Queue) (held : List HeldEvent) (ears : Option LentEars) (x : Option Refusable) (rooms places n : ℕ) (who : Who) → IsWhole old q held ears x rooms places
    → CanTake (cell_of old q held ears) (step.Rotate n who) → (force_of old).lost ≡ None → WaitsWith (force_of old) (force_of old).job old.course → AllHaveRoom (registrations old.listeners) → BeginsNext old new → p ≡ q
    → Takes (turning old q held ears) (turning new p held ears) (step.Rotate n who) (λ left. left ≡ [])
rotate_turn old new q p held ears x rooms places n who whole can lost waits room next same =
    subst (λ (z : Queue). Takes (turning old q held ears) (turning new z held ears) (step.Rotate n who) (λ left. left ≡ [])) (sym same)
    (rotates_are old new q held ears n who can (record { lost = lost; waits = waits }) room whole.kept.fits next)

pub rotate_keeps : (old new : Recorded) (q p : Queue) (held : List HeldEvent) (ears : Option LentEars) (x : Option Refusable) (rooms places : ℕ) → IsWhole old q held ears x rooms places → IsKept new held ears rooms → HasEnd new rooms
    → IsWhole new p held ears None rooms places
rotate_keeps old new q p held ears x rooms places whole kept ends = record { kept = kept; ends = ends; places = whole.places; set_aside = tt }

-- the same, as what was answered says

pub takes_on : {A E : Type 0} (v : Core) (old new : Recorded) (q : Queue) (held : List HeldEvent) (ears : Option LentEars) (x : Option Refusable) (rooms places n client : ℕ) (result : Result A E) → core_of old q held ears x ≡ v
    → IsWhole old q held ears x rooms places → CanTake v.turning.cell (step.Take n client) → AreApart old.listeners → (force_of old).lost ≡ None → WaitsWith (force_of old) (force_of old).job old.course → AllHaveRoom (registrations old.listeners)
    → OnOk result (new ≡ record old { listeners = taken_by old.listeners client }) → OnOk result (IsTaking n client v.turning (turning new q held ears))
takes_on v old new q held ears x rooms places n client (Err e) is whole can apart lost waits room h = tt
takes_on v old new q held ears x rooms places n client (Ok y) is whole can apart lost waits room h =
    subst (λ (c : Core). IsTaking n client c.turning (turning new q held ears)) is
    (take_turn old new q held ears x rooms places n client whole (subst (λ (c : Core). CanTake c.turning.cell (step.Take n client)) (sym is) can) apart lost waits room h)

pub rotates_on : {E : Type 0} (v : Core) (old new : Recorded) (q p : Queue) (held : List HeldEvent) (ears : Option LentEars) (x : Option Refusable) (rooms places n : ℕ) (who : Who) (result : Result (Unit {0}) E) → core_of old q held ears x ≡ v
    → IsWhole old q held ears x rooms places → CanTake v.turning.cell (step.Rotate n who) → (force_of old).lost ≡ None → WaitsWith (force_of old) (force_of old).job old.course → AllHaveRoom (registrations old.listeners)
    → Rotates n who old new q p result → OnOk result (Takes v.turning (turning new p held ears) (step.Rotate n who) (λ left. left ≡ []))
rotates_on v old new q p held ears x rooms places n who (Err e) is whole can lost waits room h = tt
rotates_on v old new q p held ears x rooms places n who (Ok y) is whole can lost waits room h =
    subst (λ (c : Core). Takes c.turning (turning new p held ears) (step.Rotate n who) (λ left. left ≡ [])) is
    (rotate_turn old new q p held ears x rooms places n who whole (subst (λ (c : Core). CanTake c.turning.cell (step.Rotate n who)) (sym is) can) lost waits room h.0 h.1)

-- nobody leaves the queue as a chapter ends
pub rotate_queue : {E : Type 0} (v : Core) (old new : Recorded) (q p : Queue) (held : List HeldEvent) (ears : Option LentEars) (x : Option Refusable) (n : ℕ) (who : Who) (r : Result (Unit {0}) E) → core_of old q held ears x ≡ v → Rotates n who old new q p r
    → OnOk r (p ≡ v.turning.cell.queue)
rotate_queue v old new q p held ears x n who (Ok u) is h = h.1 ∙ ap (λ (c : Core). c.turning.cell.queue) is
rotate_queue v old new q p held ears x n who (Err e) is h = tt

-- What holds between two turns holds after what a guest did by itself.
use Rattle.std.proofs.Common.{◌≡◌, ◌≤◌, ◌+◌, ℕ, IfOk, List, length, Option, None, Some, Result, refl, sym, ap, ◌∙◌, subst, arith}
use Rattle.domain_spec.specs.Types.{EndReason}
use Rattle.domain_spec.specs.declared.core_step.CoreStep.TheVariants as step
use Rattle.domain_spec.specs.Cell.{HeldEvent, LentEars, Queue, standing_of}
use Rattle.domain_spec.specs.Reading.{is_live}
use Rattle.domain_spec.specs.Turns.{AllHaveRoom}
use Rattle.core_steps.specs.OfLedger.{WaitsWith}
use Rattle.core_steps.specs.Below.core_flight.Ledger.{standing_in}
use Rattle.event_queue.specs.Listening.{registrations}
use Rattle.core_steps.specs.OfRecord.{Recorded, force_of}
use Rattle.core_steps.specs.Rooms.{HasEnd, IsKept, rooms_lent}
use Rattle.core_steps.specs.Turning.{Takes, turning}
use Rattle.core_steps.specs.declared.refusing.Refusable.{Refusable}
use Rattle.domain_core.specs.Core.{Core, IsWhole, core_of}
use Rattle.core_steps.specs.Guests.{Exits, Happens, applies_now, boot_to_hear, ears_told, event_marks, exit_marks, held_with}
use Rattle.core_steps.proofs.Stepping.{events_are, exits_are}

none_lent : (ears : Option LentEars) → rooms_lent (ears_told ears) ≡ 0
none_lent None = refl
none_lent (Some e) = refl

pub exit_turn : (old new : Recorded) (q : Queue) (held : List HeldEvent) (ears : Option LentEars) (x : Option Refusable) (rooms places boot : ℕ) (why : EndReason) → IsWhole old q held ears x rooms places
    → (force_of old).lost ≡ None → WaitsWith (force_of old) (force_of old).job old.course → AllHaveRoom (registrations old.listeners)
    → (force_of new).lost ≡ None → WaitsWith (force_of new) (force_of new).job new.course → Exits boot why old new
    → Takes (turning old q held ears) (turning new q held (ears_told ears)) (step.Exit boot why) (λ left. left ≡ exit_marks (is_live (force_of old).state boot) boot why old.listeners)
exit_turn old new q held ears x rooms places boot why whole lost waits room lost_now waits_now exits =
    exits_are old new q held ears boot why (record { lost = lost; waits = waits }) (record { lost = lost_now; waits = waits_now }) room whole.kept.fits exits

pub exit_keeps : (old new : Recorded) (q : Queue) (held : List HeldEvent) (ears told : Option LentEars) (x : Option Refusable) (rooms more places : ℕ) → IsWhole old q held ears x rooms places
    → told ≡ ears_told ears → IsKept new held told more → HasEnd new more → IsWhole new q held told None more places
exit_keeps old new q held ears told x rooms more places whole is kept ends =
    let room = whole.places in
    record {
      kept = kept;
      ends = ends;
      places = subst (λ (k : ℕ). length held + k ≤ places) (sym (ap rooms_lent is ∙ none_lent ears)) (omega (arith, room));
      set_aside = tt;
    }

pub event_turn : (old new : Recorded) (q : Queue) (held : List HeldEvent) (ears : Option LentEars) (x : Option Refusable) (rooms places : ℕ) (h : HeldEvent) → IsWhole old q held ears x rooms places
    → (force_of old).lost ≡ None → WaitsWith (force_of old) (force_of old).job old.course → AllHaveRoom (registrations old.listeners)
    → (force_of new).lost ≡ None → WaitsWith (force_of new) (force_of new).job new.course → Happens (force_of old).job h old new
    → Takes (turning old q held ears) (turning new q (held_with (force_of old) (force_of old).job h held) (ears_told ears)) (step.Event h.boot h.event)
    (λ left. left ≡ event_marks (applies_now (force_of old) (force_of old).job h.boot) h (force_of old).state old.listeners)
event_turn old new q held ears x rooms places h whole lost waits room lost_now waits_now happens =
    events_are old new q held ears h (record { lost = lost; waits = waits }) (record { lost = lost_now; waits = waits_now }) room whole.kept.fits happens

pub event_keeps : (new : Recorded) (q : Queue) (held : List HeldEvent) (ears : Option LentEars) (rooms places : ℕ) → IsKept new held ears rooms → HasEnd new rooms → length held + rooms_lent ears ≤ places
    → IsWhole new q held ears None rooms places
event_keeps new q held ears rooms places kept ends room = record { kept = kept; ends = ends; places = room; set_aside = tt }

pub back_keeps : (r : Recorded) (q : Queue) (held : List HeldEvent) (ears : Option LentEars) (x : Option Refusable) (rooms places : ℕ) → IsWhole r q held ears x rooms places → IsKept r held None rooms → IsWhole r q held None None rooms places
back_keeps r q held ears x rooms places whole kept = let room = whole.places in record { kept = kept; ends = whole.ends; places = omega (arith, room); set_aside = tt }

-- the same, as the value of the domain shows it

pub exit_goes : (v : Core) (old new : Recorded) (q : Queue) (held : List HeldEvent) (ears told : Option LentEars) (x : Option Refusable) (rooms places boot : ℕ) (why : EndReason) → core_of old q held ears x ≡ v
    → IsWhole old q held ears x rooms places → (force_of old).lost ≡ None → WaitsWith (force_of old) (force_of old).job old.course → AllHaveRoom (registrations old.listeners)
    → (force_of new).lost ≡ None → WaitsWith (force_of new) (force_of new).job new.course → Exits boot why old new → told ≡ ears_told ears
    → Takes v.turning (turning new q held told) (step.Exit boot why) (λ left. left ≡ exit_marks (is_live (standing_of v.turning.cell).state boot) boot why v.turning.listeners)
unfolding standing_in
exit_goes v old new q held ears told x rooms places boot why is whole lost waits room lost_now waits_now exits same =
    subst (λ (e : Option LentEars). Takes v.turning (turning new q held e) (step.Exit boot why) (λ left. left ≡ exit_marks (is_live (standing_of v.turning.cell).state boot) boot why v.turning.listeners)) (sym same)
    (subst (λ (c : Core). Takes c.turning (turning new q held (ears_told ears)) (step.Exit boot why) (λ left. left ≡ exit_marks (is_live (standing_of c.turning.cell).state boot) boot why c.turning.listeners)) is
    (exit_turn old new q held ears x rooms places boot why whole lost waits room lost_now waits_now exits))

pub event_goes : (v : Core) (old new : Recorded) (q : Queue) (held after : List HeldEvent) (ears told : Option LentEars) (x : Option Refusable) (rooms places : ℕ) (h : HeldEvent) → core_of old q held ears x ≡ v
    → IsWhole old q held ears x rooms places → (force_of old).lost ≡ None → WaitsWith (force_of old) (force_of old).job old.course → AllHaveRoom (registrations old.listeners)
    → (force_of new).lost ≡ None → WaitsWith (force_of new) (force_of new).job new.course → Happens (force_of old).job h old new
    → after ≡ held_with (force_of old) (force_of old).job h held → told ≡ ears_told ears
    → Takes v.turning (turning new q after told) (step.Event h.boot h.event)
    (λ left. left ≡ event_marks (applies_now (standing_of v.turning.cell) (standing_of v.turning.cell).job h.boot) h (standing_of v.turning.cell).state v.turning.listeners)
unfolding standing_in
event_goes v old new q held after ears told x rooms places h is whole lost waits room lost_now waits_now happens holds same =
    subst (λ (e : Option LentEars). Takes v.turning (turning new q after e) (step.Event h.boot h.event) (λ left. left ≡ event_marks (applies_now (standing_of v.turning.cell) (standing_of v.turning.cell).job h.boot) h (standing_of v.turning.cell).state v.turning.listeners)) (sym same)
    (subst (λ (hs : List HeldEvent). Takes v.turning (turning new q hs (ears_told ears)) (step.Event h.boot h.event) (λ left. left ≡ event_marks (applies_now (standing_of v.turning.cell) (standing_of v.turning.cell).job h.boot) h (standing_of v.turning.cell).state v.turning.listeners)) (sym holds)
    (subst (λ (c : Core). Takes c.turning (turning new q (held_with (force_of old) (force_of old).job h held) (ears_told ears)) (step.Event h.boot h.event) (λ left. left ≡ event_marks (applies_now (standing_of c.turning.cell) (standing_of c.turning.cell).job h.boot) h (standing_of c.turning.cell).state c.turning.listeners)) is
    (event_turn old new q held ears x rooms places h whole lost waits room lost_now waits_now happens)))

pub lend_shows : {E : Type 0} (v : Core) (r : Recorded) (q : Queue) (held : List HeldEvent) (ears : Option LentEars) (x : Option Refusable) (result : Result (Option ℕ) E) → core_of r q held ears x ≡ v
    → IfOk result (λ boot. boot ≡ boot_to_hear (force_of r).state held ears) → IfOk result (λ boot. boot ≡ boot_to_hear (standing_of v.turning.cell).state v.turning.cell.held v.turning.cell.ears)
unfolding standing_in
lend_shows v r q held ears x result is h =
    subst (λ (c : Core). IfOk result (λ boot. boot ≡ boot_to_hear (standing_of c.turning.cell).state c.turning.cell.held c.turning.cell.ears)) is h

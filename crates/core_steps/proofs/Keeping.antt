-- What guests do by themselves leaves room for what may come.
use Rattle.std.proofs.Common.{◌≡◌, ◌≤◌, ◌<◌, ℕ, ◌+◌, List, [], ◌∷◌, ◌++◌, length, map, is_some, nat_lt, Bool, true, false, ◌&&◌, Option, None, Some, if◌then◌else◌, refl, sym, ap, ◌∙◌, subst, arith, length-append}
use Rattle.domain_spec.specs.Types.{EndReason, GuestEvent, State, Transition}
use Rattle.domain_spec.specs.declared.mark.Mark.{Mark}
use Rattle.domain_spec.specs.declared.mark.Mark.TheVariants as mark
use Rattle.domain_spec.specs.declared.open.OpenJob.{OpenJob}
use Rattle.domain_spec.specs.declared.open.OpenOperation.{OpenOperation}
use Rattle.domain_spec.specs.declared.standing.Base.{Base}
use Rattle.domain_spec.specs.declared.standing.Standing.{Standing}
use Rattle.domain_spec.specs.Cell.{HeldEvent, LentEars}
use Rattle.domain_spec.specs.Exit.{event_transitions, exit_transitions}
use Rattle.domain_spec.specs.Fold.{after, at_base, carries, job_at_exit}
use Rattle.domain_spec.specs.Laws.{IsCounted}
use Rattle.domain_spec.specs.Reading.{is_live}
use Rattle.domain_spec.specs.Registrations.{with_pending}
use Rattle.core_log.specs.Below.core_plan.Along.{Asked}
use Rattle.core_log.specs.Below.core_flight.Ledger.{Chaptered, standing_in}
use Rattle.core_log.specs.Below.core_flight.Told.{told_last}
use Rattle.event_queue.specs.Listening.{registrations}
use Rattle.core_log.specs.Record.{Recorded, Tells, force_of, with_cuts}
use Rattle.core_log.proofs.Joining.{force_after}
use Rattle.core_steps.specs.Applying.{AppliesOne}
use Rattle.core_steps.specs.Ending.{EndsLive}
use Rattle.core_steps.specs.Looking.{with_room}
use Rattle.core_steps.specs.Rooms.{HasEnd, HasRooms, IsKept, ends_needed, marks_needed, rooms_lent, rooms_needed}
use Rattle.core_steps.specs.Turning.{FitsJob}
use Rattle.core_steps.proofs.Applied.{StaysOpen, cuts_stay}
use Rattle.core_steps.specs.Guests.{AreUntold, Exits, Happens, applies_now, ears_told, held_with, one_if}

-- counts

pub needed_if : (a : Option Asked) → (if is_some a then 1 else 0) ≡ rooms_needed a
needed_if None = refl
needed_if (Some a) = refl

pub marks_most : (a : Option Asked) → marks_needed a ≤ 2
marks_most None = omega arith
marks_most (Some a) = omega arith

pub rooms_most : (a : Option Asked) → rooms_needed a ≤ 1
rooms_most None = omega arith
rooms_most (Some a) = omega arith

abbrev none_if : Bool → ℕ
none_if b = if b then 0 else 1

lent_one : (b : Bool) → b ≡ false → none_if b ≡ 1
lent_one true e = cc
lent_one false e = refl

pub untold_one : (ears : Option LentEars) (boot : ℕ) → AreUntold ears boot → rooms_lent ears ≡ 1
untold_one None boot h = absurd h
untold_one (Some ears) boot h = lent_one ears.told h.1

pub told_none : (ears : Option LentEars) → rooms_lent (ears_told ears) ≡ 0
told_none None = refl
told_none (Some ears) = refl

pub one_most : (b : Bool) → one_if b ≤ 1
one_most true = omega arith
one_most false = omega arith

-- what is in force after one mark and its cuts

pub mark_force : (old new : Recorded) (m : Mark ℕ) → Tells old new (m ∷ []) → StaysOpen (after (force_of old) m) (force_of new)
mark_force old new m h =
    subst (λ (s : Standing). StaysOpen (after (force_of old) m) s) (sym (force_after old new (with_cuts old.listeners (m ∷ [])) h.marked))
    (cuts_stay (after (force_of old) m) (map (with_pending (told_last (m ∷ []))) (registrations old.listeners)))

fits_exit : (s : State) (boot : ℕ) (j : Option OpenJob) (held : List HeldEvent) → FitsJob j held → FitsJob (job_at_exit s boot j) held
fits_exit s boot None held h = h
fits_exit s boot (Some j) held h = tt

-- what is used of the rooms was there

few_now : (more lent_left used held lent : ℕ) → more + lent_left + used ≤ held + lent → held + lent ≤ 64 → more + lent_left ≤ 64
few_now more lent_left used held lent h few = omega (arith, h, few)

marks_now : (m rooms now used spare was : ℕ) → m + rooms ≤ was → spare + used ≡ was → now + used ≡ rooms → m + now ≤ spare
marks_now m rooms now used spare was h e f = omega (arith, h, e, f)

enough_now : (more lent_left used held lent needed rooms now : ℕ) → held + needed + lent ≤ rooms → more + lent_left + used ≤ held + lent → now + used ≡ rooms → more + needed + lent_left ≤ now
enough_now more lent_left used held lent needed rooms now h g f = omega (arith, h, g, f)

fewer : (now used rooms : ℕ) → now + used ≡ rooms → rooms ≤ 128 → now ≤ 128
fewer now used rooms e h = omega (arith, e, h)

pub kept_as : (old new : Recorded) (held more : List HeldEvent) (ears left : Option LentEars) (rooms now used : ℕ) → IsKept old held ears rooms → new.course ≡ old.course → new.history.base ≡ old.history.base
    → new.spare + used ≡ old.spare → now + used ≡ rooms → FitsJob (force_of new).job more → length more + rooms_lent left + used ≤ length held + rooms_lent ears → IsKept new more left now
kept_as old new held more ears left rooms now used k course base spare same fits le = record {
  fits = fits;
  few_held = few_now (length more) (rooms_lent left) used (length held) (rooms_lent ears) le k.few_held;
  counted = subst (λ (b : Base). IsCounted (at_base b)) (sym base) k.counted;
  has_rooms = record {
    marks = subst (λ (a : Option Asked). marks_needed a + now ≤ new.spare) (sym course) (marks_now (marks_needed old.course) rooms now used new.spare old.spare k.has_rooms.marks spare same);
    enough =
        subst (λ (a : Option Asked). length more + rooms_needed a + rooms_lent left ≤ now) (sym course)
        (enough_now (length more) (rooms_lent left) used (length held) (rooms_lent ears) (rooms_needed old.course) rooms now k.has_rooms.enough le same);
    few = fewer now used rooms same k.has_rooms.few;
  };
}

-- a boot's end

exit_if : (b : Bool) (boot : ℕ) (why : EndReason) (old new : Recorded) (held : List HeldEvent) → EndsLive b boot why old new → FitsJob (force_of old).job held
    → (new.course ≡ old.course) × (new.history.base ≡ old.history.base) × FitsJob (force_of new).job held × ((force_of new).operation ≡ (force_of old).operation)
exit_if true boot why old new held h fits = (
  h.1,
  ap (λ (x : Chaptered). x.base) h.0.marked.history,
  subst (λ (j : Option OpenJob). FitsJob j held) (sym (mark_force old new (mark.Exit boot why (exit_transitions why)) h.0).job) (fits_exit (force_of old).state boot (force_of old).job held fits),
  (mark_force old new (mark.Exit boot why (exit_transitions why)) h.0).operation,
)
exit_if false boot why old new held h fits = (
  ap (λ (x : Recorded). x.course) h,
  ap (λ (x : Recorded). x.history.base) h,
  subst (λ (x : Recorded). FitsJob (force_of x).job held) (sym h) fits,
  ap (λ (x : Recorded). (force_of x).operation) h,
)

used_one : (n lent left used : ℕ) → lent ≡ 1 → left ≡ 0 → used ≤ 1 → n + left + used ≤ n + lent
used_one n lent left used e f h = omega (arith, e, f, h)

pub exit_keeps : (old new : Recorded) (held : List HeldEvent) (ears : Option LentEars) (rooms now boot : ℕ) (why : EndReason) → IsKept old held ears rooms → AreUntold ears boot → Exits boot why old new
    → new.spare + one_if (is_live (force_of old).state boot) ≡ old.spare → now + one_if (is_live (force_of old).state boot) ≡ rooms → IsKept new held (ears_told ears) now
exit_keeps old new held ears rooms now boot why k untold exits spare same =
    let live = is_live (force_of old).state boot in
    let h = exit_if live boot why old new held exits k.fits in
    kept_as old new held held ears (ears_told ears) rooms now (one_if live) k h.0 h.1 spare same h.2
    (used_one (length held) (rooms_lent ears) (rooms_lent (ears_told ears)) (one_if live) (untold_one ears boot untold) (told_none ears) (one_most live))

-- a guest's event

event_if : (b : Bool) (h : HeldEvent) (old new : Recorded) (held : List HeldEvent) → AppliesOne b h old new → (force_of old).job ≡ None → FitsJob None held
    → (new.course ≡ old.course) × (new.history.base ≡ old.history.base) × FitsJob (force_of new).job held × ((force_of new).operation ≡ (force_of old).operation)
event_if true h old new held x free fits = (
  x.1,
  ap (λ (y : Chaptered). y.base) x.0.marked.history,
  subst (λ (j : Option OpenJob). FitsJob j held) (sym ((mark_force old new (mark.Event h.boot h.event (event_transitions (force_of old).state h.event)) x.0).job ∙ free)) fits,
  (mark_force old new (mark.Event h.boot h.event (event_transitions (force_of old).state h.event)) x.0).operation,
)
event_if false h old new held x free fits = (
  ap (λ (y : Recorded). y.course) x,
  ap (λ (y : Recorded). y.history.base) x,
  subst (λ (y : Recorded). FitsJob (force_of y).job held) (sym x) (subst (λ (j : Option OpenJob). FitsJob j held) (sym free) fits),
  ap (λ (y : Recorded). (force_of y).operation) x,
)

one_more_if : (b : Bool) (h : HeldEvent) (held : List HeldEvent) → length (if b then held ++ h ∷ [] else held) ≤ length held + 1
one_more_if true h held = let e = length-append held (h ∷ []) in omega (arith, e)
one_more_if false h held = omega arith

held_more_by : (n more lent left : ℕ) → lent ≡ 1 → left ≡ 0 → more ≤ n + 1 → more + left + 0 ≤ n + lent
held_more_by n more lent left e f h = omega (arith, e, f, h)

happened : (j : Option OpenJob) (h : HeldEvent) (old new : Recorded) (held : List HeldEvent) (ears : Option LentEars) (rooms now : ℕ) → (force_of old).job ≡ j → IsKept old held ears rooms → AreUntold ears h.boot → Happens j h old new
    → new.spare + one_if (applies_now (force_of old) j h.boot) ≡ old.spare → now + one_if (applies_now (force_of old) j h.boot) ≡ rooms → IsKept new (held_with (force_of old) j h held) (ears_told ears) now
happened None h old new held ears rooms now free k untold x spare same =
    let live = is_live (force_of old).state h.boot in
    let e = event_if live h old new held x free (subst (λ (j : Option OpenJob). FitsJob j held) free k.fits) in
    kept_as old new held held ears (ears_told ears) rooms now (one_if live) k e.0 e.1 spare same e.2
    (used_one (length held) (rooms_lent ears) (rooms_lent (ears_told ears)) (one_if live) (untold_one ears h.boot untold) (told_none ears) (one_most live))
happened (Some j) h old new held ears rooms now is k untold x spare same =
    let can = is_live (force_of old).state h.boot && nat_lt (length held) 64 in
    kept_as old new held (if can then held ++ h ∷ [] else held) ears (ears_told ears) rooms now 0 k (ap (λ (y : Recorded). y.course) x) (ap (λ (y : Recorded). y.history.base) x) spare same
    (subst (λ (y : Recorded). FitsJob (force_of y).job (if can then held ++ h ∷ [] else held)) (sym x) (subst (λ (o : Option OpenJob). FitsJob o (if can then held ++ h ∷ [] else held)) (sym is) tt))
    (held_more_by (length held) (length (if can then held ++ h ∷ [] else held)) (rooms_lent ears) (rooms_lent (ears_told ears)) (untold_one ears h.boot untold) (told_none ears) (one_more_if can h held))

pub event_keeps : (h : HeldEvent) (old new : Recorded) (held : List HeldEvent) (ears : Option LentEars) (rooms now : ℕ) → IsKept old held ears rooms → AreUntold ears h.boot → Happens (force_of old).job h old new
    → new.spare + one_if (applies_now (force_of old) (force_of old).job h.boot) ≡ old.spare → now + one_if (applies_now (force_of old) (force_of old).job h.boot) ≡ rooms
    → IsKept new (held_with (force_of old) (force_of old).job h held) (ears_told ears) now
event_keeps h old new held ears rooms now k untold x spare same = happened (force_of old).job h old new held ears rooms now refl k untold x spare same

-- the end of an operation has its room as before

end_now : (end m rooms now used spare was : ℕ) → end + (m + rooms) ≤ was → spare + used ≡ was → now + used ≡ rooms → end + (m + now) ≤ spare
end_now end m rooms now used spare was h e f = omega (arith, h, e, f)

pub end_as : (old new : Recorded) (rooms now used : ℕ) → (force_of new).operation ≡ (force_of old).operation → new.course ≡ old.course → new.spare + used ≡ old.spare → now + used ≡ rooms → HasEnd old rooms → HasEnd new now
end_as old new rooms now used operation course spare same end =
    subst (λ (o : Option OpenOperation). ends_needed o + (marks_needed new.course + now) ≤ new.spare) (sym operation)
    (subst (λ (a : Option Asked). ends_needed (force_of old).operation + (marks_needed a + now) ≤ new.spare) (sym course)
    (end_now (ends_needed (force_of old).operation) (marks_needed old.course) rooms now used new.spare old.spare end spare same))

any_fits : (j : Option OpenJob) → FitsJob j []
any_fits None = refl
any_fits (Some j) = tt

pub exit_ends : (old new : Recorded) (rooms now boot : ℕ) (why : EndReason) → Exits boot why old new → new.spare + one_if (is_live (force_of old).state boot) ≡ old.spare
    → now + one_if (is_live (force_of old).state boot) ≡ rooms → HasEnd old rooms → HasEnd new now
exit_ends old new rooms now boot why exits spare same end =
    let live = is_live (force_of old).state boot in
    let h = exit_if live boot why old new [] exits (any_fits (force_of old).job) in
    end_as old new rooms now (one_if live) h.3 h.0 spare same end

happened_end : (j : Option OpenJob) (h : HeldEvent) (old new : Recorded) (rooms now : ℕ) → (force_of old).job ≡ j → Happens j h old new → new.spare + one_if (applies_now (force_of old) j h.boot) ≡ old.spare
    → now + one_if (applies_now (force_of old) j h.boot) ≡ rooms → HasEnd old rooms → HasEnd new now
happened_end None h old new rooms now free x spare same end =
    let live = is_live (force_of old).state h.boot in
    let e = event_if live h old new [] x free refl in
    end_as old new rooms now (one_if live) e.3 e.0 spare same end
happened_end (Some j) h old new rooms now is x spare same end =
    end_as old new rooms now 0 (ap (λ (y : Recorded). (force_of y).operation) x) (ap (λ (y : Recorded). y.course) x) spare same end

pub event_ends : (h : HeldEvent) (old new : Recorded) (rooms now : ℕ) → Happens (force_of old).job h old new → new.spare + one_if (applies_now (force_of old) (force_of old).job h.boot) ≡ old.spare
    → now + one_if (applies_now (force_of old) (force_of old).job h.boot) ≡ rooms → HasEnd old rooms → HasEnd new now
event_ends h old new rooms now x spare same end = happened_end (force_of old).job h old new rooms now refl x spare same end

ends_most : (o : Option OpenOperation) → ends_needed o ≤ 1
ends_most None = omega arith
ends_most (Some o) = omega arith

end_room : (end m now rooms spare : ℕ) → end ≤ 1 → m ≤ 2 → now ≤ rooms + 1 → 4 + rooms ≤ spare → end + (m + now) ≤ spare
end_room end m now rooms spare e h f g = omega (arith, e, h, f, g)

pub end_made : (r : Recorded) (spare rooms now : ℕ) → now ≤ rooms + 1 → 4 + rooms ≤ spare → HasEnd (with_room r spare) now
end_made r spare rooms now le room = end_room (ends_needed (force_of r).operation) (marks_needed r.course) now rooms spare (ends_most (force_of r).operation) (marks_most r.course) le room

end_more : (a b c : ℕ) → a ≤ b → b ≤ c → a ≤ c
end_more a b c h g = omega (arith, h, g)

pub end_stays : (r : Recorded) (spare rooms : ℕ) → r.spare ≤ spare → HasEnd r rooms → HasEnd (with_room r spare) rooms
end_stays r spare rooms le end = end_more (ends_needed (force_of r).operation + (marks_needed r.course + rooms)) r.spare spare end le

-- the same where the mark was made

pub live_keeps : (old new : Recorded) (held : List HeldEvent) (ears : Option LentEars) (rooms now boot : ℕ) (why : EndReason) → IsKept old held ears rooms → AreUntold ears boot
    → Tells old new (mark.Exit boot why (exit_transitions why) ∷ []) → new.course ≡ old.course → new.spare + 1 ≡ old.spare → now + 1 ≡ rooms → IsKept new held (ears_told ears) now
live_keeps old new held ears rooms now boot why k untold tells course spare same =
    let h = exit_if true boot why old new held (tells, course) k.fits in
    kept_as old new held held ears (ears_told ears) rooms now 1 k h.0 h.1 spare same h.2
    (used_one (length held) (rooms_lent ears) (rooms_lent (ears_told ears)) 1 (untold_one ears boot untold) (told_none ears) (one_most true))

pub live_ends : (old new : Recorded) (rooms now boot : ℕ) (why : EndReason) → Tells old new (mark.Exit boot why (exit_transitions why) ∷ []) → new.course ≡ old.course → new.spare + 1 ≡ old.spare → now + 1 ≡ rooms
    → HasEnd old rooms → HasEnd new now
live_ends old new rooms now boot why tells course spare same end =
    end_as old new rooms now 1 (mark_force old new (mark.Exit boot why (exit_transitions why)) tells).operation course spare same end

pub applied_ends : (old new : Recorded) (rooms now boot : ℕ) (e : GuestEvent) → Tells old new (mark.Event boot e (event_transitions (force_of old).state e) ∷ []) → new.course ≡ old.course → new.spare + 1 ≡ old.spare → now + 1 ≡ rooms
    → HasEnd old rooms → HasEnd new now
applied_ends old new rooms now boot e tells course spare same end =
    end_as old new rooms now 1 (mark_force old new (mark.Event boot e (event_transitions (force_of old).state e)) tells).operation course spare same end

-- ears that have told nothing have room

has_room : (m n needed lent rooms spare : ℕ) → lent ≡ 1 → n + needed + lent ≤ rooms → m + rooms ≤ spare → (0 < spare) × (0 < rooms)
has_room m n needed lent rooms spare e h g = (omega (arith, e, h, g), omega (arith, e, h))

pub untold_room : (r : Recorded) (held : List HeldEvent) (ears : Option LentEars) (rooms boot : ℕ) → IsKept r held ears rooms → AreUntold ears boot → (0 < r.spare) × (0 < rooms)
untold_room r held ears rooms boot k untold =
    has_room (marks_needed r.course) (length held) (rooms_needed r.course) (rooms_lent ears) rooms r.spare (untold_one ears boot untold) k.has_rooms.enough k.has_rooms.marks

-- Turns of clients, and the ends of chapters, leave room for what may come.
use Rattle.std.proofs.Common.{◌≡◌, ◌≤◌, ℕ, ◌+◌, List, [], ◌∷◌, ◌++◌, length, Option, None, Some, Result, Ok, Err, refl, sym, ap, ◌∙◌, subst, arith}
use Rattle.domain_spec.specs.declared.mark.Mark.{Mark}
use Rattle.domain_spec.specs.declared.mark.Mark.TheVariants as mark
use Rattle.domain_spec.specs.declared.open.OpenJob.{OpenJob}
use Rattle.domain_spec.specs.declared.open.OpenOperation.{OpenOperation}
use Rattle.domain_spec.specs.declared.standing.Base.{Base}
use Rattle.domain_spec.specs.declared.standing.Standing.{Standing}
use Rattle.domain_spec.specs.Cell.{HeldEvent, LentEars}
use Rattle.domain_spec.specs.Chapter.{next_base}
use Rattle.domain_spec.specs.Fold.{after, at_base, standing}
use Rattle.domain_spec.specs.Laws.{IsCounted}
use Rattle.domain_spec.proofs.EndsOnce.{mark_counted}
use Rattle.core_log.specs.Below.core_plan.Along.{Asked}
use Rattle.core_log.specs.Below.core_flight.Ledger.{Chaptered, standing_in}
use Rattle.event_queue.specs.Listening.{Listening, registrations}
use Rattle.core_log.specs.Record.{HasMarked, Recorded, force_of}
use Rattle.core_log.proofs.Joining.{force_after}
use Rattle.core_steps.specs.Looking.{with_room}
use Rattle.core_steps.specs.Rooms.{HasEnd, IsKept, ends_needed, marks_needed, rooms_lent, rooms_needed}
use Rattle.core_steps.specs.Turning.{FitsJob}
use Rattle.core_steps.specs.Clients.{BeginsNext, Leaves, Registers}

-- where neither what is away nor the job changes, room for its marks is enough

pub kept_as : (old new : Recorded) (held : List HeldEvent) (ears : Option LentEars) (rooms : ℕ) → IsKept old held ears rooms → new.course ≡ old.course → new.history.base ≡ old.history.base
    → (force_of new).job ≡ (force_of old).job → marks_needed new.course + rooms ≤ new.spare → IsKept new held ears rooms
kept_as old new held ears rooms k course base job marks = record {
  fits = subst (λ (j : Option OpenJob). FitsJob j held) (sym job) k.fits;
  few_held = k.few_held;
  counted = subst (λ (b : Base). IsCounted (at_base b)) (sym base) k.counted;
  has_rooms = record { marks = marks; enough = subst (λ (a : Option Asked). length held + rooms_needed a + rooms_lent ears ≤ rooms) (sym course) k.has_rooms.enough; few = k.has_rooms.few };
}

-- a client registers, or ends its registration

marks_most : (a : Option Asked) → marks_needed a ≤ 2
marks_most None = omega arith
marks_most (Some a) = omega arith

room_left : (needed rooms spare was : ℕ) → needed ≤ 2 → 5 + rooms ≤ was → spare + 2 ≡ was → needed + rooms ≤ spare
room_left needed rooms spare was h g e = omega (arith, h, g, e)

pub watch_keeps : (old new : Recorded) (held : List HeldEvent) (ears : Option LentEars) (rooms n client was : ℕ) → IsKept old held ears rooms → HasMarked old new (mark.Watch n client ∷ []) → new.course ≡ old.course
    → 5 + rooms ≤ was → new.spare + 2 ≡ was → IsKept new held ears rooms
watch_keeps old new held ears rooms n client was k marked course room spare =
    kept_as old new held ears rooms k course (ap (λ (x : Chaptered). x.base) marked.history) (ap (λ (s : Standing). s.job) (force_after old new (mark.Watch n client ∷ []) marked))
    (room_left (marks_needed new.course) rooms new.spare was (marks_most new.course) room spare)

pub unwatch_keeps : (old new : Recorded) (held : List HeldEvent) (ears : Option LentEars) (rooms n client : ℕ) → IsKept old held ears rooms → HasMarked old new (mark.Unwatch n client ∷ []) → new.course ≡ old.course
    → new.spare ≡ old.spare → IsKept new held ears rooms
unwatch_keeps old new held ears rooms n client k marked course spare =
    kept_as old new held ears rooms k course (ap (λ (x : Chaptered). x.base) marked.history) (ap (λ (s : Standing). s.job) (force_after old new (mark.Unwatch n client ∷ []) marked))
    (subst (λ (a : Option Asked). marks_needed a + rooms ≤ new.spare) (sym course) (subst (λ (m : ℕ). marks_needed old.course + rooms ≤ m) (sym spare) k.has_rooms.marks))

-- only room was made, or what pends was taken

more_room : (a b c : ℕ) → a ≤ b → b ≤ c → a ≤ c
more_room a b c h g = omega (arith, h, g)

pub room_keeps : (r : Recorded) (spare : ℕ) (held : List HeldEvent) (ears : Option LentEars) (rooms : ℕ) → IsKept r held ears rooms → r.spare ≤ spare → IsKept (with_room r spare) held ears rooms
room_keeps r spare held ears rooms k le = record {
  fits = k.fits;
  few_held = k.few_held;
  counted = k.counted;
  has_rooms = record { marks = more_room (marks_needed r.course + rooms) r.spare spare k.has_rooms.marks le; enough = k.has_rooms.enough; few = k.has_rooms.few };
}

pub take_keeps : (r : Recorded) (left : List Listening) (held : List HeldEvent) (ears : Option LentEars) (rooms : ℕ) → IsKept r held ears rooms → IsKept (record r { listeners = left }) held ears rooms
take_keeps r left held ears rooms k = record {
  fits = k.fits;
  few_held = k.few_held;
  counted = k.counted;
  has_rooms = record { marks = k.has_rooms.marks; enough = k.has_rooms.enough; few = k.has_rooms.few };
}

-- a chapter ends

counted_at : (s : Standing) (marks : List (Mark ℕ)) → IsCounted s → IsCounted (standing s marks)
counted_at s [] h = h
counted_at s (m ∷ marks) h = counted_at (after s m) marks (mark_counted s m h)

counted_next : (r : Recorded) → IsCounted (at_base r.history.base) → IsCounted (at_base (next_base (force_of r) (registrations r.listeners)))
unfolding standing_in
counted_next r h = counted_at (at_base r.history.base) r.history.marks h

no_job : (h : Chaptered) (b : Base) (n : ℕ) → h ≡ record { chapter = n; base = b; marks = [] } → (standing_in h).job ≡ None
unfolding standing_in
no_job h b n e = ap (λ (x : Chaptered). (standing (at_base x.base) x.marks).job) e

room_next : (needed rooms spare : ℕ) → needed ≤ 2 → 3 + rooms ≤ spare → needed + rooms ≤ spare
room_next needed rooms spare h g = omega (arith, h, g)

pub rotate_keeps : (old new : Recorded) (held : List HeldEvent) (ears : Option LentEars) (rooms : ℕ) → IsKept old held ears rooms → (force_of old).job ≡ None → BeginsNext old new → 3 + rooms ≤ new.spare → IsKept new held ears rooms
rotate_keeps old new held ears rooms k free h room = record {
  fits =
      subst (λ (j : Option OpenJob). FitsJob j held) (sym (no_job new.history (next_base (force_of old) (registrations old.listeners)) (old.history.chapter + 1) h.history))
      (subst (λ (j : Option OpenJob). FitsJob j held) free k.fits);
  few_held = k.few_held;
  counted = subst (λ (x : Chaptered). IsCounted (at_base x.base)) (sym h.history) (counted_next old k.counted);
  has_rooms = record {
    marks = room_next (marks_needed new.course) rooms new.spare (marks_most new.course) room;
    enough = subst (λ (a : Option Asked). length held + rooms_needed a + rooms_lent ears ≤ rooms) (sym h.course) k.has_rooms.enough;
    few = k.has_rooms.few;
  };
}

-- the end of an operation has its room

ends_most : (o : Option OpenOperation) → ends_needed o ≤ 1
ends_most None = omega arith
ends_most (Some o) = omega arith

end_room : (end m rooms spare : ℕ) → end ≤ 1 → m ≤ 2 → 3 + rooms ≤ spare → end + (m + rooms) ≤ spare
end_room end m rooms spare e h g = omega (arith, e, h, g)

pub end_made : (r : Recorded) (rooms : ℕ) → 3 + rooms ≤ r.spare → HasEnd r rooms
end_made r rooms room = end_room (ends_needed (force_of r).operation) (marks_needed r.course) rooms r.spare (ends_most (force_of r).operation) (marks_most r.course) room

three_left : (rooms spare was : ℕ) → 5 + rooms ≤ was → spare + 2 ≡ was → 3 + rooms ≤ spare
three_left rooms spare was h e = omega (arith, h, e)

pub watch_ends : (r : Recorded) (rooms was : ℕ) → 5 + rooms ≤ was → r.spare + 2 ≡ was → HasEnd r rooms
watch_ends r rooms was h e = end_made r rooms (three_left rooms r.spare was h e)

pub unwatch_ends : (old new : Recorded) (rooms n client : ℕ) → HasMarked old new (mark.Unwatch n client ∷ []) → new.course ≡ old.course → new.spare ≡ old.spare → HasEnd old rooms → HasEnd new rooms
unwatch_ends old new rooms n client marked course spare end =
    subst (λ (o : Option OpenOperation). ends_needed o + (marks_needed new.course + rooms) ≤ new.spare) (sym (ap (λ (s : Standing). s.operation) (force_after old new (mark.Unwatch n client ∷ []) marked)))
    (subst (λ (a : Option Asked). ends_needed (force_of old).operation + (marks_needed a + rooms) ≤ new.spare) (sym course)
    (subst (λ (m : ℕ). ends_needed (force_of old).operation + (marks_needed old.course + rooms) ≤ m) (sym spare) end))

pub room_ends : (r : Recorded) (spare rooms : ℕ) → r.spare ≤ spare → HasEnd r rooms → HasEnd (with_room r spare) rooms
room_ends r spare rooms le end = more_room (ends_needed (force_of r).operation + (marks_needed r.course + rooms)) r.spare spare end le

-- Why what a client leaves that registers, or ends its registration, is one step of the cell.
use Rattle.std.proofs.Common.{◌≡◌, ℕ, List, [], ◌∷◌, false, Option, None, Some, Result, Ok, Err, inl, inr, refl, sym, ap, ◌∙◌, subst, append-nil}
use Rattle.domain_spec.specs.declared.core_step.CoreStep.TheVariants as step
use Rattle.domain_spec.specs.declared.mark.Mark.{Mark}
use Rattle.domain_spec.specs.declared.mark.Mark.TheVariants as mark
use Rattle.domain_spec.specs.declared.open.OpenJob.{OpenJob}
use Rattle.domain_spec.specs.declared.standing.Standing.{Standing}
use Rattle.domain_spec.specs.Cell.{Cell, HeldEvent, LentEars, Queue}
use Rattle.domain_spec.specs.Fold.{after}
use Rattle.domain_spec.specs.TakeUp.{is_vacant}
use Rattle.domain_spec.specs.Turns.{AnswersAfter, IsNextClient}
use Rattle.core_log.specs.Below.core_plan.Along.{Asked}
use Rattle.core_log.specs.Below.core_flight.Away.{WaitsWith}
use Rattle.core_log.specs.Below.core_flight.Ledger.{Chaptered, standing_in}
use Rattle.event_queue.specs.Listening.{IsLeastFree, Listening}
use Rattle.core_log.specs.Record.{HasMarked, Recorded, force_of}
use Rattle.core_log.proofs.Joining.{force_after}
use Rattle.core_steps.specs.Looking.{with_room}
use Rattle.core_steps.specs.Turning.{FitsJob, HasTurned, Takes, Turning, answers_of, cell_of, turning}
use Rattle.core_steps.proofs.Idling.{none_due_by}
use Rattle.core_steps.proofs.LookedAt.{no_loss}
use Rattle.core_steps.proofs.Waiting.{waits}
use Rattle.core_steps.specs.declared.watching.WatchFault.{WatchFault}
use Rattle.core_steps.specs.declared.watching.WatchFault.TheVariants as fault
use Rattle.core_steps.specs.ClientLaws.{LeavesAreTurns, WatchesAreTurns}
use Rattle.core_steps.specs.Clients.{Leaves, Registers, Watches, watch_marks}
use Rattle.core_steps.proofs.Finding.{quiet_can, same_any}
use Rattle.core_steps.proofs.RestingTurns.{IsBetween, idle_watch, unwatch_held, unwatched_answers, watch_answers, watch_held}

-- a client registers

next_client : (r : Recorded) (q : Queue) (held : List HeldEvent) (ears : Option LentEars) (client : ℕ) → IsLeastFree r.listeners client → is_vacant (force_of r).state ≡ false → IsNextClient (cell_of r q held ears) client
unfolding standing_in
next_client r q held ears client least domain = record {
  below = least.below;
  free = same_any r.listeners client ∙ least.free;
  least = λ n lt. same_any r.listeners n ∙ least.least n lt;
  domain = domain;
}

registered : (old new : Recorded) (q : Queue) (held : List HeldEvent) (ears : Option LentEars) (n client : ℕ) → IsBetween old new held → Registers n client old new
    → HasTurned (turning old q held ears) (turning new q held ears) (step.Watch n) (mark.Watch n client ∷ [])
unfolding standing_in
registered old new q held ears n client between h =
    let c : Cell = cell_of old q held ears in
    let m : Mark ℕ = mark.Watch n client in
    let there : force_of new ≡ after (force_of old) m = force_after old new (m ∷ []) h.marked in
    let job : (force_of new).job ≡ (force_of old).job = ap (λ (s : Standing). s.job) there in
    let fits : FitsJob (force_of new).job held = subst (λ (j : Option OpenJob). FitsJob j held) (sym job) between.fits in
    record {
      turn = record {
        can = tt;
        left = ((refl, h.marked.legal.0.in_order, next_client old q held ears client h.least h.domain), no_loss (force_of old) m between.before.lost, between.before.lost);
        cuts = h.marked.cuts;
        held = none_due_by (after (force_of old) m) (force_of old).job held between.fits;
      };
      leads = record {
        base = ap (λ (x : Chaptered). x.base) h.marked.history;
        marks = ap (λ (x : Chaptered). x.marks) h.marked.history;
        registrations = h.marked.kept;
        answers =
            subst (λ (a : Option Asked). AnswersAfter c (step.Watch n) (m ∷ []) (force_of new).job (answers_of a)) (sym h.course)
            (watch_answers (force_of new) c n n client (force_of new).job old.course refl (subst (λ (a : Option Asked). WaitsWith (force_of new) (force_of new).job a) h.course between.after.waits));
        away = waits new q held ears between.after.waits;
        held = watch_held c (force_of new) n (force_of new).job fits;
        queue = refl;
        ears = refl;
      };
      chapter = ap (λ (x : Chaptered). x.chapter) h.marked.history;
    }

none_registered : (r : Recorded) (q : Queue) (held : List HeldEvent) (ears : Option LentEars) (n : ℕ) → IsBetween r r held → HasTurned (turning r q held ears) (turning r q held ears) (step.Watch n) []
unfolding standing_in
none_registered r q held ears n between =
    let c : Cell = cell_of r q held ears in
    record {
      turn = record { can = tt; left = between.before.lost; cuts = between.room; held = none_due_by (force_of r) (force_of r).job held between.fits };
      leads = record {
        base = refl;
        marks = sym (append-nil r.history.marks);
        registrations = refl;
        answers = idle_watch (force_of r) c n (force_of r).job r.course refl between.before.waits;
        away = waits r q held ears between.before.waits;
        held = watch_held c (force_of r) n (force_of r).job between.fits;
        queue = refl;
        ears = refl;
      };
      chapter = refl;
    }

unregistered : (old new : Recorded) (q : Queue) (held : List HeldEvent) (ears : Option LentEars) (n spare : ℕ) → IsBetween old new held → new ≡ with_room old spare
    → HasTurned (turning old q held ears) (turning new q held ears) (step.Watch n) []
unregistered old new q held ears n spare between same =
    subst (λ (t : Turning). HasTurned (turning old q held ears) t (step.Watch n) []) (sym (ap (λ (r : Recorded). turning r q held ears) same))
    (none_registered old q held ears n (record { before = between.before; after = between.before; room = between.room; fits = between.fits }))

with_spare : (old new : Recorded) (held : List HeldEvent) (spare : ℕ) → IsBetween old new held → IsBetween (with_room old spare) new held
with_spare old new held spare h =
    record { before = record { lost = h.before.lost; waits = h.before.waits }; after = h.after; room = h.room; fits = h.fits }

watched : (result : Result ℕ WatchFault) (old new : Recorded) (q : Queue) (held : List HeldEvent) (ears : Option LentEars) (n : ℕ) → IsBetween old new held → Watches n old new result
    → HasTurned (turning old q held ears) (turning new q held ears) (step.Watch n) (watch_marks n result)
watched (Ok client) old new q held ears n between h = registered (with_room old h.0) new q held ears n client (with_spare old new held h.0 between) h.1
watched (Err fault.Vacant) old new q held ears n between h = unregistered old new q held ears n old.spare between h.1
watched (Err (fault.Full count)) old new q held ears n between h = unregistered old new q held ears n old.spare between h.3
watched (Err fault.NoMemory) old new q held ears n between h = unregistered old new q held ears n new.spare between h.1

pub watches_are : WatchesAreTurns
watches_are old new q held ears n result before after room fits h =
    (watch_marks n result, watched result old new q held ears n (record { before = before; after = after; room = room; fits = fits }) h, refl)

-- a client ends its registration

left_by_it : (old new : Recorded) (q : Queue) (held : List HeldEvent) (ears : Option LentEars) (n client : ℕ) → IsBetween old new held → Leaves n client old new
    → HasTurned (turning old q held ears) (turning new q held ears) (step.Unwatch n client) (mark.Unwatch n client ∷ [])
unfolding standing_in
left_by_it old new q held ears n client between h =
    let c : Cell = cell_of old q held ears in
    let m : Mark ℕ = mark.Unwatch n client in
    let there : force_of new ≡ after (force_of old) m = force_after old new (m ∷ []) h.marked in
    let job : (force_of new).job ≡ (force_of old).job = ap (λ (s : Standing). s.job) there in
    let fits : FitsJob (force_of new).job held = subst (λ (j : Option OpenJob). FitsJob j held) (sym job) between.fits in
    record {
      turn = record {
        can = quiet_can old q held ears n client h.quiet;
        left = ((refl, refl, h.marked.legal.0.in_order), no_loss (force_of old) m between.before.lost, between.before.lost);
        cuts = h.marked.cuts;
        held = none_due_by (after (force_of old) m) (force_of old).job held between.fits;
      };
      leads = record {
        base = ap (λ (x : Chaptered). x.base) h.marked.history;
        marks = ap (λ (x : Chaptered). x.marks) h.marked.history;
        registrations = h.marked.kept;
        answers =
            subst (λ (a : Option Asked). AnswersAfter c (step.Unwatch n client) (m ∷ []) (force_of new).job (answers_of a)) (sym h.course)
            (unwatched_answers (force_of new) c n client n client (force_of new).job old.course refl (subst (λ (a : Option Asked). WaitsWith (force_of new) (force_of new).job a) h.course between.after.waits));
        away = waits new q held ears between.after.waits;
        held = unwatch_held c (force_of new) n client (force_of new).job fits;
        queue = refl;
        ears = refl;
      };
      chapter = ap (λ (x : Chaptered). x.chapter) h.marked.history;
    }

pub leaves_are : LeavesAreTurns
leaves_are old new q held ears n client before after room fits h =
    (mark.Unwatch n client ∷ [], left_by_it old new q held ears n client (record { before = before; after = after; room = room; fits = fits }) h, refl)

-- Why what a guest does by itself is one step of its cell.
use Rattle.std.proofs.Common.{◌≡◌, ℕ, List, [], ◌∷◌, ◌++◌, length, map, nat_lt, Bool, true, false, ◌&&◌, inl, inr, Option, None, Some, if◌then◌else◌, refl, sym, ap, ◌∙◌, subst, append-nil}
use Rattle.domain_spec.specs.Types.{EndReason, GuestEvent, State, Transition}
use Rattle.domain_spec.specs.Types.answer
use Rattle.domain_spec.specs.declared.core_step.CoreStep.{CoreStep}
use Rattle.domain_spec.specs.declared.core_step.CoreStep.TheVariants as step
use Rattle.domain_spec.specs.declared.mark.Mark.{Mark}
use Rattle.domain_spec.specs.declared.mark.Mark.TheVariants as mark
use Rattle.domain_spec.specs.declared.open.OpenJob.{OpenJob}
use Rattle.domain_spec.specs.declared.standing.Registration.{Registration}
use Rattle.domain_spec.specs.declared.standing.Standing.{Standing}
use Rattle.domain_spec.specs.CanTake.{CanTake}
use Rattle.domain_spec.specs.Cell.{Cell, HeldEvent, LentEars, Queue}
use Rattle.domain_spec.specs.Exit.{event_transitions, exit_transitions}
use Rattle.domain_spec.specs.Fold.{after, job_at_exit, standing}
use Rattle.domain_spec.specs.Kept.{AppliesHeld, due_events, events_in, held_by, held_more}
use Rattle.domain_spec.specs.Reading.{is_live}
use Rattle.domain_spec.specs.Registrations.{with_pending}
use Rattle.domain_spec.specs.Turns.{AnswersAfter, AllHaveRoom}
use Rattle.core_log.specs.Below.core_plan.Along.{Asked}
use Rattle.core_log.specs.Below.core_flight.Away.{WaitsWith}
use Rattle.core_log.specs.Below.core_flight.Ledger.{Chaptered, standing_in}
use Rattle.core_log.specs.Below.core_flight.Told.{told_last}
use Rattle.event_queue.specs.Listening.{registrations}
use Rattle.core_log.specs.Record.{Recorded, Tells, cuts_after, force_of, with_cuts}
use Rattle.core_log.proofs.Joining.{force_after}
use Rattle.core_steps.specs.Applying.{AppliesOne}
use Rattle.core_steps.specs.Ending.{EndsLive}
use Rattle.core_steps.specs.Turning.{FitsJob, HasTurned, IsSettled, Turning, answers_of, cell_of, turning}
use Rattle.core_steps.proofs.Going.{Goes, goes_all, goes_one}
use Rattle.core_steps.proofs.Idling.{none_due_by}
use Rattle.core_steps.proofs.LookedAt.{no_loss}
use Rattle.core_steps.proofs.Marks.{may_begin, no_event_cut}
use Rattle.core_steps.proofs.Waiting.{waits}
use Rattle.core_steps.specs.GuestLaws.{EventsAreTurns, ExitsAreTurns}
use Rattle.core_steps.specs.Guests.{Exits, Happens, applies_now, ears_told, event_marks, exit_marks, held_with}
use Rattle.core_steps.proofs.Keeping.{mark_force}

-- what is known before a guest's turn, and after it
record IsBetween (old new : Recorded) (held : List HeldEvent) : Type 0 where
  before : IsSettled old
  after : IsSettled new
  room : AllHaveRoom (registrations old.listeners)
  fits : FitsJob (force_of old).job held

-- the answers so far stay

exit_answers : (s : Standing) (c : Cell) (boot : ℕ) (why : EndReason) (ms : List (Mark ℕ)) (events : List Transition) (j : Option OpenJob) (a b : Option Asked) → b ≡ a → c.answers ≡ answers_of a → WaitsWith s j b
    → AnswersAfter c (step.Exit boot why) (mark.Exit boot why events ∷ ms) j (answers_of b)
exit_answers s c boot why ms events None a None e f h = refl
exit_answers s c boot why ms events None a (Some b) e f h = absurd h
exit_answers s c boot why ms events (Some j) a b e f h = ap answers_of e ∙ sym f

event_answers : (s : Standing) (c : Cell) (boot b : ℕ) (e g : GuestEvent) (ms : List (Mark ℕ)) (events : List Transition) (j : Option OpenJob) (a : Option Asked) → c.answers ≡ answers_of a → WaitsWith s j a
    → AnswersAfter c (step.Event boot e) (mark.Event b g events ∷ ms) j (answers_of a)
event_answers s c boot b e g ms events None None f h = refl
event_answers s c boot b e g ms events None (Some a) f h = absurd h
event_answers s c boot b e g ms events (Some j) a f h = sym f

idle_exit : (s : Standing) (c : Cell) (boot : ℕ) (why : EndReason) (j : Option OpenJob) (a : Option Asked) → c.answers ≡ answers_of a → WaitsWith s j a → AnswersAfter c (step.Exit boot why) [] j (answers_of a)
idle_exit s c boot why None None f h = refl
idle_exit s c boot why None (Some a) f h = absurd h
idle_exit s c boot why (Some j) a f h = sym f

idle_event : (s : Standing) (c : Cell) (boot : ℕ) (e : GuestEvent) (j : Option OpenJob) (a : Option Asked) → c.answers ≡ answers_of a → WaitsWith s j a → AnswersAfter c (step.Event boot e) [] j (answers_of a)
idle_event s c boot e None None f h = refl
idle_event s c boot e None (Some a) f h = absurd h
idle_event s c boot e (Some j) a f h = sym f

-- the held events stay while a call is open, and there are none else

exit_held : (c : Cell) (s : Standing) (boot : ℕ) (why : EndReason) (j : Option OpenJob) → FitsJob j c.held → c.held ≡ held_by c (step.Exit boot why) s j
exit_held c s boot why None e = e
exit_held c s boot why (Some j) e = refl

fits_exit : (s : State) (boot : ℕ) (j : Option OpenJob) (held : List HeldEvent) → FitsJob j held → FitsJob (job_at_exit s boot j) held
fits_exit s boot None held h = h
fits_exit s boot (Some j) held h = tt

-- a boot's end

exit_live : (old new : Recorded) (q : Queue) (held : List HeldEvent) (ears : Option LentEars) (boot : ℕ) (why : EndReason) → IsBetween old new held → is_live (force_of old).state boot ≡ true → EndsLive true boot why old new
    → HasTurned (turning old q held ears) (turning new q held (ears_told ears)) (step.Exit boot why) (with_cuts old.listeners (mark.Exit boot why (exit_transitions why) ∷ []))
unfolding standing_in
exit_live old new q held ears boot why between live h =
    let c : Cell = cell_of old q held ears in
    let t = step.Exit boot why in
    let m : Mark ℕ = mark.Exit boot why (exit_transitions why) in
    let due : List Registration = map (with_pending (told_last (m ∷ []))) (registrations old.listeners) in
    let left : List (Mark ℕ) = with_cuts old.listeners (m ∷ []) in
    let goes : Goes c t old new left = goes_one c t old new m h.0 (record { by = inr (refl, refl); live = live; told = refl }) (no_loss (force_of old) m between.before.lost) in
    let marked = goes.marked in
    let there : force_of new ≡ standing (force_of old) left = force_after old new left marked in
    let job : (force_of new).job ≡ job_at_exit (force_of old).state boot (force_of old).job = (mark_force old new m h.0).job in
    let fits : FitsJob (force_of new).job held = subst (λ (j : Option OpenJob). FitsJob j held) (sym job) (fits_exit (force_of old).state boot (force_of old).job held between.fits) in
    record {
      turn = record {
        can = tt;
        left = may_begin c t left (goes_all c t old new left goes between.after.lost);
        cuts = marked.cuts;
        held =
            subst (λ (z : Standing). events_in left ≡ due_events z z.job held) there
            (no_event_cut due ∙ none_due_by (force_of new) (force_of new).job held fits);
      };
      leads = record {
        base = ap (λ (x : Chaptered). x.base) marked.history;
        marks = ap (λ (x : Chaptered). x.marks) marked.history;
        registrations = marked.kept;
        answers = exit_answers (force_of new) c boot why (cuts_after (registrations old.listeners) (told_last (m ∷ []))) (exit_transitions why) (force_of new).job old.course new.course h.1 refl between.after.waits;
        away = waits new q held (ears_told ears) between.after.waits;
        held = exit_held c (force_of new) boot why (force_of new).job fits;
        queue = refl;
        ears = refl;
      };
      chapter = ap (λ (x : Chaptered). x.chapter) marked.history;
    }

exit_none : (r : Recorded) (q : Queue) (held : List HeldEvent) (ears : Option LentEars) (boot : ℕ) (why : EndReason) → IsBetween r r held
    → HasTurned (turning r q held ears) (turning r q held (ears_told ears)) (step.Exit boot why) []
unfolding standing_in
exit_none r q held ears boot why between =
    let c : Cell = cell_of r q held ears in
    record {
      turn = record { can = tt; left = between.before.lost; cuts = between.room; held = none_due_by (force_of r) (force_of r).job held between.fits };
      leads = record {
        base = refl;
        marks = sym (append-nil r.history.marks);
        registrations = refl;
        answers = idle_exit (force_of r) c boot why (force_of r).job r.course refl between.before.waits;
        away = waits r q held (ears_told ears) between.before.waits;
        held = exit_held c (force_of r) boot why (force_of r).job between.fits;
        queue = refl;
        ears = refl;
      };
      chapter = refl;
    }

exit_if : (b : Bool) (old new : Recorded) (q : Queue) (held : List HeldEvent) (ears : Option LentEars) (boot : ℕ) (why : EndReason) → IsBetween old new held → is_live (force_of old).state boot ≡ b → EndsLive b boot why old new
    → HasTurned (turning old q held ears) (turning new q held (ears_told ears)) (step.Exit boot why) (exit_marks b boot why old.listeners)
exit_if true old new q held ears boot why between live h = exit_live old new q held ears boot why between live h
exit_if false old new q held ears boot why between live h =
    subst (λ (x : Recorded). HasTurned (turning old q held ears) (turning x q held (ears_told ears)) (step.Exit boot why) []) (sym h)
    (exit_none old q held ears boot why (record { before = between.before; after = between.before; room = between.room; fits = between.fits }))

pub exits_are : ExitsAreTurns
exits_are old new q held ears boot why before after room fits h =
    let between : IsBetween old new held = record { before = before; after = after; room = room; fits = fits } in
    (exit_marks (is_live (force_of old).state boot) boot why old.listeners, exit_if (is_live (force_of old).state boot) old new q held ears boot why between refl h, refl)

-- a guest's event that is marked

none_held : (s : Standing) (c : Cell) (boot : ℕ) (e : GuestEvent) (j : Option OpenJob) → j ≡ None → c.held ≡ [] → c.held ≡ held_by c (step.Event boot e) s j
none_held s c boot e None is h = h
none_held s c boot e (Some j) is h = cc

event_live : (old new : Recorded) (q : Queue) (held : List HeldEvent) (ears : Option LentEars) (h : HeldEvent) → IsBetween old new held → (force_of old).job ≡ None → is_live (force_of old).state h.boot ≡ true → AppliesOne true h old new
    → HasTurned (turning old q held ears) (turning new q held (ears_told ears)) (step.Event h.boot h.event) (with_cuts old.listeners (mark.Event h.boot h.event (event_transitions (force_of old).state h.event) ∷ []))
unfolding standing_in
event_live old new q held ears h between free live x =
    let c : Cell = cell_of old q held ears in
    let t = step.Event h.boot h.event in
    let events : List Transition = event_transitions (force_of old).state h.event in
    let m : Mark ℕ = mark.Event h.boot h.event events in
    let left : List (Mark ℕ) = with_cuts old.listeners (m ∷ []) in
    let goes : Goes c t old new left = goes_one c t old new m x.0 ((refl, refl), live, free, refl) (no_loss (force_of old) m between.before.lost) in
    let marked = goes.marked in
    let none : held ≡ [] = subst (λ (j : Option OpenJob). FitsJob j held) free between.fits in
    let job : (force_of new).job ≡ None = (mark_force old new m x.0).job ∙ free in
    record {
      turn = record {
        can = tt;
        left = may_begin c t left (goes_all c t old new left goes between.after.lost);
        cuts = marked.cuts;
        held = inr none;
      };
      leads = record {
        base = ap (λ (y : Chaptered). y.base) marked.history;
        marks = ap (λ (y : Chaptered). y.marks) marked.history;
        registrations = marked.kept;
        answers =
            subst (λ (a : Option Asked). AnswersAfter c t left (force_of new).job (answers_of a)) (sym x.1)
            (event_answers (force_of new) c h.boot h.boot h.event h.event (cuts_after (registrations old.listeners) (told_last (m ∷ []))) events (force_of new).job old.course refl (subst (λ (a : Option Asked). WaitsWith (force_of new) (force_of new).job a) x.1 between.after.waits));
        away = waits new q held (ears_told ears) between.after.waits;
        held = none_held (force_of new) c h.boot h.event (force_of new).job job none;
        queue = refl;
        ears = refl;
      };
      chapter = ap (λ (y : Chaptered). y.chapter) marked.history;
    }

-- one that leaves no mark: dropped, or held

kept_event : (c : Cell) (s : Standing) (boot : ℕ) (e : GuestEvent) (j : Option OpenJob) → FitsJob j c.held → held_with s j (record { boot = boot; event = e }) c.held ≡ held_by c (step.Event boot e) s j
kept_event c s boot e None h = h
kept_event c s boot e (Some j) h = refl

event_none : (r : Recorded) (q : Queue) (held : List HeldEvent) (ears : Option LentEars) (h : HeldEvent) → IsBetween r r held
    → HasTurned (turning r q held ears) (turning r q (held_with (force_of r) (force_of r).job h held) (ears_told ears)) (step.Event h.boot h.event) []
unfolding standing_in
event_none r q held ears h between =
    let c : Cell = cell_of r q held ears in
    let more = held_with (force_of r) (force_of r).job h held in
    record {
      turn = record { can = tt; left = between.before.lost; cuts = between.room; held = inl refl };
      leads = record {
        base = refl;
        marks = sym (append-nil r.history.marks);
        registrations = refl;
        answers = idle_event (force_of r) c h.boot h.event (force_of r).job r.course refl between.before.waits;
        away = waits r q more (ears_told ears) between.before.waits;
        held = kept_event c (force_of r) h.boot h.event (force_of r).job between.fits;
        queue = refl;
        ears = refl;
      };
      chapter = refl;
    }

unmarked : (old new : Recorded) (q : Queue) (held : List HeldEvent) (ears : Option LentEars) (h : HeldEvent) → IsBetween old new held → new ≡ old
    → HasTurned (turning old q held ears) (turning new q (held_with (force_of old) (force_of old).job h held) (ears_told ears)) (step.Event h.boot h.event) []
unmarked old new q held ears h between same =
    subst (λ (x : Recorded). HasTurned (turning old q held ears) (turning x q (held_with (force_of old) (force_of old).job h held) (ears_told ears)) (step.Event h.boot h.event) []) (sym same)
    (event_none old q held ears h (record { before = between.before; after = between.before; room = between.room; fits = between.fits }))

event_if : (b : Bool) (old new : Recorded) (q : Queue) (held : List HeldEvent) (ears : Option LentEars) (h : HeldEvent) → IsBetween old new held → (force_of old).job ≡ None → is_live (force_of old).state h.boot ≡ b → AppliesOne b h old new
    → HasTurned (turning old q held ears) (turning new q (held_with (force_of old) (force_of old).job h held) (ears_told ears)) (step.Event h.boot h.event) (event_marks b h (force_of old).state old.listeners)
event_if true old new q held ears h between free live x =
    subst
    (λ (j : Option OpenJob). HasTurned (turning old q held ears) (turning new q (held_with (force_of old) j h held) (ears_told ears)) (step.Event h.boot h.event) (event_marks true h (force_of old).state old.listeners))
    (sym free) (event_live old new q held ears h between free live x)
event_if false old new q held ears h between free live x = unmarked old new q held ears h between x

happened : (j : Option OpenJob) (old new : Recorded) (q : Queue) (held : List HeldEvent) (ears : Option LentEars) (h : HeldEvent) → IsBetween old new held → (force_of old).job ≡ j → Happens j h old new
    → HasTurned (turning old q held ears) (turning new q (held_with (force_of old) (force_of old).job h held) (ears_told ears)) (step.Event h.boot h.event) (event_marks (applies_now (force_of old) j h.boot) h (force_of old).state old.listeners)
happened None old new q held ears h between is x = event_if (is_live (force_of old).state h.boot) old new q held ears h between is refl x
happened (Some j) old new q held ears h between is x = unmarked old new q held ears h between x

pub events_are : EventsAreTurns
events_are old new q held ears h before after room fits x =
    let between : IsBetween old new held = record { before = before; after = after; room = room; fits = fits } in
    (event_marks (applies_now (force_of old) (force_of old).job h.boot) h (force_of old).state old.listeners, happened (force_of old).job old new q held ears h between refl x, refl)

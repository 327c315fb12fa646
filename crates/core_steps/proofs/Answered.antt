-- A call that is answered.
use Rattle.std.proofs.Common.{◌≡◌, ℕ, ◌+◌, List, [], ◌∷◌, ◌++◌, map, replicate, Bool, true, false, inr, Option, None, Some, if◌then◌else◌, refl, sym, ap, ◌∙◌, subst, append_assoc, append-nil}
use Rattle.domain_spec.specs.Types.{Answer, Ask, EndReason, Job, Reply}
use Rattle.domain_spec.specs.Types.answer
use Rattle.domain_spec.specs.Types.job
use Rattle.domain_spec.specs.declared.core_step.CoreStep.{CoreStep}
use Rattle.domain_spec.specs.declared.core_step.CoreStep.TheVariants as step
use Rattle.domain_spec.specs.declared.mark.Mark.{Mark}
use Rattle.domain_spec.specs.declared.mark.Mark.TheVariants as mark
use Rattle.domain_spec.specs.declared.open.OpenJob.{OpenJob}
use Rattle.domain_spec.specs.declared.standing.Registration.{Registration}
use Rattle.domain_spec.specs.declared.standing.Standing.{Standing}
use Rattle.domain_spec.specs.declared.step.Outcome.{Outcome}
use Rattle.domain_spec.specs.CanTake.{CanTake}
use Rattle.domain_spec.specs.Cell.{Cell, HeldEvent, LentEars, Queue}
use Rattle.domain_spec.specs.Exit.{exit_transitions}
use Rattle.domain_spec.specs.Fold.{after, standing}
use Rattle.domain_spec.specs.Kept.{due_events, events_in, held_by}
use Rattle.domain_spec.specs.Reading.{is_live}
use Rattle.domain_spec.specs.Registrations.{with_pending}
use Rattle.domain_spec.specs.Steps.{AnswersBy, Ends}
use Rattle.domain_spec.specs.Turns.{AllHaveRoom, AnswersAfter}
use Rattle.core_log.specs.Below.core_plan.Along.{Asked, answered}
use Rattle.core_log.specs.Below.core_plan.Starving.{starved}
use Rattle.core_log.proofs.Below.core_flight.Turned.{starved_find_none}
use Rattle.core_log.specs.Below.core_flight.Away.{WaitsWith}
use Rattle.core_log.specs.Below.core_flight.Ledger.{Chaptered, answered_as, answered_in, closing, standing_in}
use Rattle.core_log.specs.Below.core_flight.Told.{told_last}
use Rattle.event_queue.specs.Listening.{registrations}
use Rattle.event_queue.specs.Telling.{cuts_due, is_over, most_of}
use Rattle.core_log.specs.Record.{IsAsking, IsDoneWith, Recorded, force_of, with_cuts}
use Rattle.core_log.proofs.Joining.{force_after}
use Rattle.core_steps.specs.Ending.{EndsCarried, EndsFirst, EndsLive, boot_of}
use Rattle.core_steps.specs.Phased.{HasLedTo}
use Rattle.core_steps.specs.Turning.{HasDone, HasTurned, IsSettled, answers_of, cell_of, turning}
use Rattle.core_steps.proofs.Applied.{AreApplied, StaysOpen, cuts_stay, filter_same}
use Rattle.core_steps.proofs.Going.{Goes, goes_all, goes_done, goes_more, goes_one}
use Rattle.core_steps.proofs.LookedAt.{DoneAt, done_at, no_loss}
use Rattle.core_steps.proofs.Marks.{events_append, has_done, may_begin, no_event_closing, no_event_cut}
use Rattle.core_steps.proofs.Waiting.{waits}

-- the reply comes after these marks

past_if : (b : Bool) (client total taken n : ℕ) (r : Reply) (ms more : List (Mark ℕ)) → HasDone n r (ms ++ more) → HasDone n r ((if b then mark.Cut client total taken ∷ ms else ms) ++ more)
past_if true client total taken n r ms more h = h
past_if false client total taken n r ms more h = h

pub past_cuts : (rs : List Registration) (n : ℕ) (r : Reply) (more : List (Mark ℕ)) → HasDone n r more → HasDone n r (cuts_due rs ++ more)
past_cuts [] n r more h = h
past_cuts (x ∷ rs) n r more h = past_if (is_over x) x.client (x.taken + most_of x) x.taken n r (cuts_due rs) more (past_cuts rs n r more h)

led_past_if : (b : Bool) (client total taken n : ℕ) (o : Outcome) (ms more : List (Mark ℕ)) → HasLedTo n o (ms ++ more) → HasLedTo n o ((if b then mark.Cut client total taken ∷ ms else ms) ++ more)
led_past_if true client total taken n o ms more h = h
led_past_if false client total taken n o ms more h = h

-- and so does what a phase led to
led_past_cuts : (rs : List Registration) (n : ℕ) (o : Outcome) (more : List (Mark ℕ)) → HasLedTo n o more → HasLedTo n o (cuts_due rs ++ more)
led_past_cuts [] n o more h = h
led_past_cuts (x ∷ rs) n o more h = led_past_if (is_over x) x.client (x.taken + most_of x) x.taken n o (cuts_due rs) more (led_past_cuts rs n o more h)

-- a boot's end that was marked first

pub record BootEnded (c : Cell) (t : CoreStep ℕ) (old new : Recorded) : Type 0 where
  pub left : List (Mark ℕ)
  pub goes : Goes c t old new left
  pub events : events_in left ≡ []
  pub past : (n : ℕ) (r : Reply) (more : List (Mark ℕ)) → HasDone n r more → HasDone n r (left ++ more)
  pub led_past : (n : ℕ) (o : Outcome) (more : List (Mark ℕ)) → HasLedTo n o more → HasLedTo n o (left ++ more)
  pub operation : (force_of new).operation ≡ (force_of old).operation
  pub course : new.course ≡ old.course
  pub lost : (force_of new).lost ≡ None

none_ended : (c : Cell) (t : CoreStep ℕ) (old new : Recorded) → AllHaveRoom (registrations old.listeners) → (force_of old).lost ≡ None → new ≡ old → BootEnded c t old new
none_ended c t old new room lost e =
    subst (λ (x : Recorded). BootEnded c t old x) (sym e) (record {
      left = [];
      goes = record {
        marked = record { history = ap (λ (ms : List (Mark ℕ)). record old.history { marks = ms }) (sym (append-nil old.history.marks)); kept = refl; legal = tt; cuts = room };
        goes = λ more go. go;
      };
      events = refl;
      past = λ n r more h. h;
      led_past = λ n o more h. h;
      operation = refl;
      course = refl;
      lost = lost;
    })

live_ended : (c : Cell) (n : ℕ) (j : OpenJob) (b : Bool) (boot : ℕ) (why : EndReason) (old new : Recorded) → (force_of old).job ≡ Some j → j.boot ≡ Some boot → is_live (force_of old).state boot ≡ b
    → AllHaveRoom (registrations old.listeners) → (force_of old).lost ≡ None → EndsLive b boot why old new → BootEnded c (step.Back n (answer.Ended why)) old new
live_ended c n j true boot why old new is carried live room lost h =
    let t = step.Back n (answer.Ended why) in
    let m : Mark ℕ = mark.Exit boot why (exit_transitions why) in
    let due : List Registration = map (with_pending (told_last (m ∷ []))) (registrations old.listeners) in
    let ends : Ends t (force_of old).job boot why = subst (λ (k : Option OpenJob). Ends t k boot why) (sym is) (carried, refl) in
    let there : StaysOpen (after (force_of old) m) (force_of new) =
    subst (λ (s : Standing). StaysOpen (after (force_of old) m) s) (sym (force_after old new (with_cuts old.listeners (m ∷ [])) h.0.marked)) (cuts_stay (after (force_of old) m) due) in
    record {
      left = with_cuts old.listeners (m ∷ []);
      goes = goes_one c t old new m h.0 (record { by = inr ends; live = live; told = refl }) (no_loss (force_of old) m lost);
      events = no_event_cut due;
      past = λ k r more done. past_cuts due k r more done;
      led_past = λ k o more led. led_past_cuts due k o more led;
      operation = there.operation;
      course = h.1;
      lost = there.lost;
    }
live_ended c n j false boot why old new is carried live room lost h = none_ended c (step.Back n (answer.Ended why)) old new room lost h

carried_ended : (c : Cell) (n : ℕ) (j : OpenJob) (carried : Option ℕ) (why : EndReason) (old new : Recorded) → (force_of old).job ≡ Some j → j.boot ≡ carried
    → AllHaveRoom (registrations old.listeners) → (force_of old).lost ≡ None → EndsCarried carried why old new → BootEnded c (step.Back n (answer.Ended why)) old new
carried_ended c n j None why old new is carried room lost h = none_ended c (step.Back n (answer.Ended why)) old new room lost h
carried_ended c n j (Some boot) why old new is carried room lost h = live_ended c n j (is_live (force_of old).state boot) boot why old new is carried refl room lost h

call_ended : (c : Cell) (n : ℕ) (j : Option OpenJob) (why : EndReason) (old new : Recorded) → (force_of old).job ≡ j → AllHaveRoom (registrations old.listeners) → (force_of old).lost ≡ None
    → EndsCarried (boot_of j) why old new → BootEnded c (step.Back n (answer.Ended why)) old new
call_ended c n None why old new is room lost h = none_ended c (step.Back n (answer.Ended why)) old new room lost h
call_ended c n (Some j) why old new is room lost h = carried_ended c n j j.boot why old new is refl room lost h

pub ended_first : (c : Cell) (n : ℕ) (x : Answer) (old new : Recorded) → AllHaveRoom (registrations old.listeners) → (force_of old).lost ≡ None → EndsFirst x old new → BootEnded c (step.Back n x) old new
ended_first c n (answer.Ended why) old new room lost h = call_ended c n (force_of old).job why old new refl room lost h
ended_first c n other old new room lost h = none_ended c (step.Back n other) old new room lost h

-- what was answered in this turn

pub answers_by : (old : Recorded) (q : Queue) (held : List HeldEvent) (ears : Option LentEars) (n : ℕ) (a b : Asked) (x : Answer) (count : ℕ) → old.course ≡ Some a → b.answers ≡ a.answers ++ x ∷ []
    → AnswersBy (cell_of old q held ears) (step.Back n x) (starved count b).answers
answers_by old q held ears n a b x count e is = (
  count,
  starved_find_none count b
      ∙ ap (λ (xs : List Answer). xs ++ replicate count answer.NoMemory) is
      ∙ append_assoc a.answers (x ∷ []) (replicate count answer.NoMemory)
      ∙ ap (λ (o : Option Asked). answers_of o ++ x ∷ replicate count answer.NoMemory) (sym e),
)

one_more_as : (w : Job) (a : Asked) (x : Answer) → (answered_as w a x).answers ≡ a.answers ++ x ∷ []
one_more_as job.Nested a x = refl
one_more_as other a x = refl

-- one answer more, of a call or of a phase
pub one_more : (j : Option OpenJob) (a : Asked) (x : Answer) → (answered_in j a x).answers ≡ a.answers ++ x ∷ []
one_more None a x = refl
one_more (Some j) a x = one_more_as j.job a x

-- the call is done, and the held events apply

pub back_done : (old mid done new : Recorded) (q : Queue) (held : List HeldEvent) (ears : Option LentEars) (n : ℕ) (a : Asked) (x : Answer) (count : ℕ) (r : Reply)
    → CanTake (cell_of old q held ears) (step.Back n x) → old.course ≡ Some a → BootEnded (cell_of old q held ears) (step.Back n x) old mid
    → IsDoneWith mid [] n (starved count (answered a x)) done r → AreApplied (cell_of old q held ears) (step.Back n x) held done new → IsSettled new
    → (left : List (Mark ℕ)) × HasTurned (turning old q held ears) (turning new q [] ears) (step.Back n x) left × HasDone n r left
unfolding standing_in
back_done old mid done new q held ears n a x count r can away ended is applied settled =
    let c : Cell = cell_of old q held ears in
    let t = step.Back n x in
    let b : Asked = starved count (answered a x) in
    let s : Standing = force_of mid in
    let at : DoneAt mid done [] s n b r = done_at mid done [] n b r is in
    let due_in : List Registration = map (with_pending (told_last (closing s s.job n b))) (registrations mid.listeners) in
    let closed : List (Mark ℕ) = with_cuts mid.listeners (closing s s.job n b) in
    let left : List (Mark ℕ) = ended.left ++ (closed ++ applied.left) in
    let goes : Goes c t old new left =
    goes_more c t old mid new ended.left (closed ++ applied.left) ended.goes
    (goes_more c t mid done new closed applied.left (goes_done c t mid done n b r at refl (answers_by old q held ears n a (answered a x) x count away refl)) applied.goes) in
    let marked = goes.marked in
    let none : (force_of new).job ≡ None = applied.open_stays.0 in
    let there : force_of new ≡ standing (force_of old) left = force_after old new left marked in
    let due : events_in left ≡ due_events (force_of new) None held =
    events_append ended.left (closed ++ applied.left)
    ∙ ap (λ (hs : List HeldEvent). hs ++ events_in (closed ++ applied.left)) ended.events
    ∙ events_append closed applied.left
    ∙ ap (λ (hs : List HeldEvent). hs ++ events_in applied.left)
    (events_append (closing s s.job n b) (cuts_due due_in) ∙ ap (λ (hs : List HeldEvent). hs ++ events_in (cuts_due due_in)) (no_event_closing s s.job n b) ∙ no_event_cut due_in)
    ∙ applied.events
    ∙ filter_same (λ h. is_live (force_of done).state h.boot) (λ h. is_live (force_of new).state h.boot) held (λ h. sym (applied.live h.boot)) in (
      left,
      record {
        turn = record {
          can = can;
          left = may_begin c t left (goes_all c t old new left goes settled.lost);
          cuts = marked.cuts;
          held =
              subst (λ (y : Standing). events_in left ≡ due_events y y.job held) there
              (subst (λ (j : Option OpenJob). events_in left ≡ due_events (force_of new) j held) (sym none) due);
        };
        leads = record {
          base = ap (λ (h : Chaptered). h.base) marked.history;
          marks = ap (λ (h : Chaptered). h.marks) marked.history;
          registrations = marked.kept;
          answers = subst (λ (j : Option OpenJob). AnswersAfter c t left j (answers_of new.course)) (sym none) (ap answers_of (applied.open_stays.2 ∙ is.none_away));
          away = waits new q [] ears settled.waits;
          held = sym (ap (λ (j : Option OpenJob). held_by c t (force_of new) j) none);
          queue = refl;
          ears = refl;
        };
        chapter = ap (λ (h : Chaptered). h.chapter) marked.history;
      },
      ended.past n r (closed ++ applied.left)
          (subst (λ (ms : List (Mark ℕ)). HasDone n r ms) (sym (append_assoc (closing s s.job n b) (cuts_due due_in) applied.left)) (has_done s n b r (cuts_due due_in ++ applied.left) at.lawful at.reply)),
    )

-- the call asks on

pub open_by : (s : Standing) (j : Option OpenJob) (a : Asked) (o : Option Asked) → o ≡ Some a → WaitsWith s j o → (k : OpenJob) × (j ≡ Some k)
open_by s None a None e h = cc
open_by s None a (Some b) e h = absurd h
open_by s (Some j) a o e h = (j, refl)

pub back_away : (old mid new : Recorded) (q : Queue) (held : List HeldEvent) (ears : Option LentEars) (n : ℕ) (a : Asked) (x : Answer) (count : ℕ) (y : Ask)
    → CanTake (cell_of old q held ears) (step.Back n x) → old.course ≡ Some a → BootEnded (cell_of old q held ears) (step.Back n x) old mid
    → IsAsking mid [] (starved count (answered_in (force_of mid).job a x)) new y → IsSettled new
    → (left : List (Mark ℕ)) × HasTurned (turning old q held ears) (turning new q held ears) (step.Back n x) left × (events_in left ≡ [])
unfolding standing_in
back_away old mid new q held ears n a x count y can away ended is settled =
    let c : Cell = cell_of old q held ears in
    let t = step.Back n x in
    let b : Asked = starved count (answered_in (force_of mid).job a x) in
    let left : List (Mark ℕ) = ended.left ++ [] in
    let goes : Goes c t old new left = goes_more c t old mid new ended.left [] ended.goes (record { marked = is.marked; goes = λ more go. go }) in
    let marked = goes.marked in
    let open_one = open_by (force_of new) (force_of new).job b new.course is.away settled.waits in
    let job : (force_of new).job ≡ Some open_one.0 = open_one.1 in
    let there : force_of new ≡ standing (force_of old) left = force_after old new left marked in
    let none : events_in left ≡ [] = events_append ended.left [] ∙ ap (λ (hs : List HeldEvent). hs ++ []) ended.events in (
      left,
      record {
        turn = record {
          can = can;
          left = may_begin c t left (goes_all c t old new left goes settled.lost);
          cuts = marked.cuts;
          held =
              subst (λ (z : Standing). events_in left ≡ due_events z z.job held) there
              (subst (λ (j : Option OpenJob). events_in left ≡ due_events (force_of new) j held) (sym job) none);
        };
        leads = record {
          base = ap (λ (h : Chaptered). h.base) marked.history;
          marks = ap (λ (h : Chaptered). h.marks) marked.history;
          registrations = marked.kept;
          answers =
              subst (λ (j : Option OpenJob). AnswersAfter c t left j (answers_of new.course)) (sym job)
              (subst (λ (o : Option Asked). AnswersBy c t (answers_of o)) (sym is.away) (answers_by old q held ears n a (answered_in (force_of mid).job a x) x count away (one_more (force_of mid).job a x)));
          away = waits new q held ears settled.waits;
          held = sym (ap (λ (j : Option OpenJob). held_by c t (force_of new) j) job);
          queue = refl;
          ears = refl;
        };
        chapter = ap (λ (h : Chaptered). h.chapter) marked.history;
      },
      none,
    )

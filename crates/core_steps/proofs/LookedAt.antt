-- A call that looks.
use Rattle.std.proofs.Common.{◌≡◌, ℕ, List, [], ◌∷◌, ◌++◌, map, Option, None, Some, refl, sym, ap, ◌∙◌, subst, append-nil}
use Rattle.domain_spec.specs.Types.{Ask, Call, Reply, Who}
use Rattle.domain_spec.specs.declared.core_step.CoreStep.TheVariants as step
use Rattle.domain_spec.specs.declared.core_step.First.{First}
use Rattle.domain_spec.specs.declared.mark.Mark.{Mark}
use Rattle.domain_spec.specs.declared.open.OpenJob.{OpenJob}
use Rattle.domain_spec.specs.declared.standing.Registration.{Registration}
use Rattle.domain_spec.specs.declared.standing.Standing.{Standing}
use Rattle.domain_spec.specs.Call.{job_of}
use Rattle.domain_spec.specs.CanTake.{CanLook}
use Rattle.domain_spec.specs.Cell.{Cell, HeldEvent, LentEars, Queue}
use Rattle.domain_spec.specs.Fold.{after, standing}
use Rattle.domain_spec.specs.Kept.{due_events, events_in, held_by, left_queue}
use Rattle.domain_spec.specs.Legal.{MarksLoss}
use Rattle.domain_spec.specs.Registrations.{with_pending}
use Rattle.domain_spec.specs.Steps.{LetsIn}
use Rattle.domain_spec.specs.Turns.{AnswersAfter, GoOn}
use Rattle.core_log.specs.Below.core_plan.Along.{Asked}
use Rattle.core_log.specs.Below.core_plan.Starving.{starved}
use Rattle.core_log.specs.Below.core_plan.Going.{first_course}
use Rattle.core_log.proofs.Below.core_flight.Turned.{let_in_is_left, starved_find_none}
use Rattle.core_log.specs.Below.core_flight.Ledger.{Chaptered, IsDoneLawful, IsTold, closing, standing_in}
use Rattle.core_log.specs.Below.core_flight.Told.{told_last}
use Rattle.event_queue.specs.Listening.{registrations}
use Rattle.core_log.specs.Record.{IsAsking, IsDoneWith, Recorded, Tells, admit_of, cuts_after, force_of}
use Rattle.core_log.proofs.Held.{in_more}
use Rattle.core_log.proofs.Joining.{force_after}
use Rattle.core_log.proofs.Cuts.{legal_ending}
use Rattle.domain_spec.proofs.LawProofs.{standing-append}
use Rattle.core_steps.specs.Turning.{HasDone, HasTurned, IsSettled, answers_of, cell_of, turning}
use Rattle.core_steps.proofs.Marks.{cuts_go_on, events_append, has_done, no_event_closing, no_event_cut}
use Rattle.core_steps.proofs.Waiting.{none_open, waits}

-- what every turn that lets a call in knows before
pub record Entering (old : Recorded) (q : Queue) (held : List HeldEvent) (ears : Option LentEars) (n : ℕ) (who : Who) (d : Call) (first : First) (boot : Option ℕ) : Type 0 where
  pub can : CanLook (cell_of old q held ears) n who d first
  pub lets_in : LetsIn (cell_of old q held ears) (step.Look n who d first) n who (job_of d) d boot
  pub lost : (force_of old).lost ≡ None
  pub none_held : held ≡ []

pub no_loss : (s : Standing) (m : Mark ℕ) → s.lost ≡ None → MarksLoss s.lost m
no_loss s m e = subst (λ (o : Option ℕ). MarksLoss o m) (sym e) tt

pub look_away : (old new : Recorded) (q : Queue) (held : List HeldEvent) (ears : Option LentEars) (n : ℕ) (who : Who) (d : Call) (first : First) (boot : Option ℕ) (count : ℕ) (x : Ask)
    → Entering old q held ears n who d first boot → IsSettled new → IsAsking old (admit_of n who d boot ∷ []) (starved count (first_course (force_of old).state d boot)) new x
    → HasTurned (turning old q held ears) (turning new (left_queue q n who) held ears) (step.Look n who d first) (admit_of n who d boot ∷ [])
unfolding standing_in
look_away old new q held ears n who d first boot count x enters settled asking =
    let m : Mark ℕ = admit_of n who d boot in
    let c : Cell = cell_of old q held ears in
    let there : force_of new ≡ after (force_of old) m = force_after old new (m ∷ []) asking.marked in
    let job : (force_of new).job ≡ (after (force_of old) m).job = ap (λ (s : Standing). s.job) there in
    record {
      turn = record {
        can = enters.can;
        left = (enters.lets_in, no_loss (force_of old) m enters.lost, enters.lost);
        cuts = asking.marked.cuts;
        held = refl;
      };
      leads = record {
        base = ap (λ (h : Chaptered). h.base) asking.marked.history;
        marks = ap (λ (h : Chaptered). h.marks) asking.marked.history;
        registrations = asking.marked.kept;
        answers =
            subst (λ (j : Option OpenJob). AnswersAfter c (step.Look n who d first) (m ∷ []) j (answers_of new.course)) (sym job)
            (count, ap answers_of asking.away ∙ starved_find_none count (first_course (force_of old).state d boot));
        away = waits new (left_queue q n who) held ears settled.waits;
        held = sym (ap (λ (j : Option OpenJob). held_by c (step.Look n who d first) (force_of new) j) job);
        queue = refl;
        ears = refl;
      };
      chapter = ap (λ (h : Chaptered). h.chapter) asking.marked.history;
    }

-- the call that was let in is done at once
pub record DoneAt (old new : Recorded) (before : List (Mark ℕ)) (s : Standing) (n : ℕ) (a : Asked) (r : Reply) : Type 0 where
  pub told : Tells old new (before ++ closing s s.job n a)
  pub lawful : IsDoneLawful s s.job n a
  pub reply : IsTold s s.job a r

pub done_at : (old new : Recorded) (before : List (Mark ℕ)) (n : ℕ) (a : Asked) (r : Reply) → IsDoneWith old before n a new r → DoneAt old new before (standing (force_of old) before) n a r
done_at old new before n a r h =
    subst (λ (s : Standing). DoneAt old new before s n a r) (in_more old.history before) (record { told = h.told.0; lawful = h.told.1; reply = h.told.2 })

none_due : (s : Standing) (j : Option OpenJob) (held : List HeldEvent) → held ≡ [] → due_events s j held ≡ []
none_due s None held e = ap (λ (hs : List HeldEvent). due_events s None hs) e
none_due s (Some j) held e = refl

pub look_done : (old new : Recorded) (q : Queue) (held : List HeldEvent) (ears : Option LentEars) (n : ℕ) (who : Who) (d : Call) (first : First) (boot : Option ℕ) (count : ℕ) (r : Reply)
    → Entering old q held ears n who d first boot → IsSettled new → IsDoneWith old (admit_of n who d boot ∷ []) n (starved count (first_course (force_of old).state d boot)) new r
    → (left : List (Mark ℕ)) × HasTurned (turning old q held ears) (turning new (left_queue q n who) held ears) (step.Look n who d first) left × HasDone n r left
unfolding standing_in
look_done old new q held ears n who d first boot count r enters settled done =
    let m : Mark ℕ = admit_of n who d boot in
    let c : Cell = cell_of old q held ears in
    let t = step.Look n who d first in
    let a : Asked = starved count (first_course (force_of old).state d boot) in
    let s : Standing = after (force_of old) m in
    let at : DoneAt old new (m ∷ []) s n a r = done_at old new (m ∷ []) n a r done in
    let cuts : List (Mark ℕ) = cuts_after (registrations old.listeners) (told_last (m ∷ closing s s.job n a)) in
    let due : List Registration = map (with_pending (told_last (m ∷ closing s s.job n a))) (registrations old.listeners) in
    let left : List (Mark ℕ) = m ∷ (closing s s.job n a ++ cuts) in
    let marked = at.told.marked in
    let there : force_of new ≡ standing (force_of old) left = force_after old new left marked in
    let none : (force_of new).job ≡ None = none_open new done.none_away settled.waits in
    let lost_last : (standing (force_of old) left).lost ≡ None = sym (ap (λ (x : Standing). x.lost) there) ∙ settled.lost in
    let legal_cuts = legal_ending s (closing s s.job n a) cuts marked.legal.1 in
    let split = standing-append s (closing s s.job n a) cuts in
    let go : GoOn c t (standing s (closing s s.job n a)) cuts =
    subst (λ (ms : List (Mark ℕ)). GoOn c t (standing s (closing s s.job n a)) ms) (append-nil cuts)
    (cuts_go_on c t (standing s (closing s s.job n a)) due [] legal_cuts (sym (ap (λ (x : Standing). x.lost) split) ∙ lost_last)) in
    let no_events : events_in left ≡ [] =
    events_append (closing s s.job n a) cuts ∙ ap (λ (hs : List HeldEvent). hs ++ events_in cuts) (no_event_closing s s.job n a) ∙ no_event_cut due in (
      left,
      record {
        turn = record {
          can = enters.can;
          left = let_in_is_left c n who d first boot count cuts enters.lost enters.lets_in at.lawful go;
          cuts = marked.cuts;
          held = no_events ∙ sym (none_due (standing (force_of old) left) (standing (force_of old) left).job held enters.none_held);
        };
        leads = record {
          base = ap (λ (h : Chaptered). h.base) marked.history;
          marks = ap (λ (h : Chaptered). h.marks) marked.history;
          registrations = marked.kept;
          answers = subst (λ (j : Option OpenJob). AnswersAfter c t left j (answers_of new.course)) (sym none) (ap answers_of done.none_away);
          away = waits new (left_queue q n who) held ears settled.waits;
          held = enters.none_held ∙ sym (ap (λ (j : Option OpenJob). held_by c t (force_of new) j) none);
          queue = refl;
          ears = refl;
        };
        chapter = ap (λ (h : Chaptered). h.chapter) marked.history;
      },
      has_done s n a r cuts at.lawful at.reply,
    )

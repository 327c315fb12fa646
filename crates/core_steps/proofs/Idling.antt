-- A turn that leaves no mark, or one by which its call is turned away.
use Rattle.std.proofs.Common.{◌≡◌, ℕ, List, [], ◌∷◌, map, Option, None, Some, refl, sym, ap, subst, append-nil}
use Rattle.domain_spec.specs.Types.{Call, RefusalCode, Who}
use Rattle.domain_spec.specs.Types.code
use Rattle.domain_spec.specs.declared.core_step.CoreStep.TheVariants as step
use Rattle.domain_spec.specs.declared.core_step.First.{First}
use Rattle.domain_spec.specs.declared.mark.HeldJobs.{HeldJobs}
use Rattle.domain_spec.specs.declared.mark.Mark.{Mark}
use Rattle.domain_spec.specs.declared.mark.Mark.TheVariants as mark
use Rattle.domain_spec.specs.declared.open.OpenJob.{OpenJob}
use Rattle.domain_spec.specs.declared.standing.Standing.{Standing}
use Rattle.domain_spec.specs.CanTake.{CanLook, CanTake}
use Rattle.domain_spec.specs.Cell.{Cell, HeldEvent, LentEars, Queue}
use Rattle.domain_spec.specs.Fold.{after}
use Rattle.domain_spec.specs.Kept.{LooksOn, due_events, held_by, left_queue}
use Rattle.domain_spec.specs.Lawful.{IsLawfulRefusal}
use Rattle.domain_spec.specs.Turns.{AllHaveRoom, AnswersAfter}
use Rattle.core_log.specs.Below.core_plan.Along.{Asked}
use Rattle.core_log.specs.Below.core_flight.Away.{WaitsWith}
use Rattle.core_log.specs.Below.core_flight.Ledger.{Chaptered, standing_in}
use Rattle.event_queue.specs.Listening.{registrations}
use Rattle.core_log.specs.Record.{HasMarked, Recorded, force_of}
use Rattle.core_log.proofs.Joining.{force_after}
use Rattle.core_steps.specs.Turning.{FitsJob, HasTurned, IsSettled, answers_of, cell_of, turning}
use Rattle.core_steps.proofs.Waiting.{waits}
use Rattle.core_steps.proofs.LookedAt.{no_loss}

-- what a turn leaves of answers and held events that changes neither the open call nor them

pub answers_looked : (s : Standing) (c : Cell) (j : Option OpenJob) (a : Option Asked) (n : ℕ) (who : Who) (d : Call) (first : First) → c.answers ≡ answers_of a → WaitsWith s j a
    → AnswersAfter c (step.Look n who d first) [] j (answers_of a)
answers_looked s c None None n who d first e h = refl
answers_looked s c None (Some a) n who d first e h = absurd h
answers_looked s c (Some j) None n who d first e h = absurd h
answers_looked s c (Some j) (Some a) n who d first e h = sym e

answers_turned : (s : Standing) (c : Cell) (j : Option OpenJob) (a : Option Asked) (n number : ℕ) (who w : Who) (d e : Call) (first : First) (why : RefusalCode) (held : HeldJobs) → c.answers ≡ answers_of a → WaitsWith s j a
    → AnswersAfter c (step.Look n who d first) (mark.Refused number w e why held ∷ []) j (answers_of a)
answers_turned s c None None n number who w d e first why held is h = refl
answers_turned s c None (Some a) n number who w d e first why held is h = absurd h
answers_turned s c (Some j) None n number who w d e first why held is h = absurd h
answers_turned s c (Some j) (Some a) n number who w d e first why held is h = sym is

answers_given_up : (s : Standing) (c : Cell) (j : Option OpenJob) (a : Option Asked) (n number : ℕ) (who w : Who) (d e : Call) (why : RefusalCode) (held : HeldJobs) → c.answers ≡ answers_of a → WaitsWith s j a
    → AnswersAfter c (step.GiveUp n who d) (mark.Refused number w e why held ∷ []) j (answers_of a)
answers_given_up s c None None n number who w d e why held is h = refl
answers_given_up s c None (Some a) n number who w d e why held is h = absurd h
answers_given_up s c (Some j) None n number who w d e why held is h = absurd h
answers_given_up s c (Some j) (Some a) n number who w d e why held is h = sym is

pub none_due_by : (s : Standing) (j : Option OpenJob) (held : List HeldEvent) → FitsJob j held → [] ≡ due_events s j held
none_due_by s None held e = sym (ap (λ (hs : List HeldEvent). due_events s None hs) e)
none_due_by s (Some j) held e = refl

held_looked : (c : Cell) (s : Standing) (j : Option OpenJob) (n : ℕ) (who : Who) (d : Call) (first : First) → FitsJob j c.held → c.held ≡ held_by c (step.Look n who d first) s j
held_looked c s None n who d first e = e
held_looked c s (Some j) n who d first e = refl

held_given_up : (c : Cell) (s : Standing) (j : Option OpenJob) (n : ℕ) (who : Who) (d : Call) → FitsJob j c.held → c.held ≡ held_by c (step.GiveUp n who d) s j
held_given_up c s None n who d e = e
held_given_up c s (Some j) n who d e = refl

-- a look that leaves no mark

pub look_idle : (r : Recorded) (q p : Queue) (held : List HeldEvent) (ears : Option LentEars) (n : ℕ) (who : Who) (d : Call) (first : First)
    → CanLook (cell_of r q held ears) n who d first → IsSettled r → AllHaveRoom (registrations r.listeners) → FitsJob (force_of r).job held → LooksOn (cell_of r q held ears) n who d [] p
    → HasTurned (turning r q held ears) (turning r p held ears) (step.Look n who d first) []
unfolding standing_in
look_idle r q p held ears n who d first can settled room fits looks =
    let c : Cell = cell_of r q held ears in
    record {
      turn = record { can = can; left = settled.lost; cuts = room; held = none_due_by (force_of r) (force_of r).job held fits };
      leads = record {
        base = refl;
        marks = sym (append-nil r.history.marks);
        registrations = refl;
        answers = answers_looked (force_of r) c (force_of r).job r.course n who d first refl settled.waits;
        away = waits r p held ears settled.waits;
        held = held_looked c (force_of r) (force_of r).job n who d first fits;
        queue = looks;
        ears = refl;
      };
      chapter = refl;
    }

-- a call that is turned away

-- what is known where a call is turned away
pub record TurnsAway (old new : Recorded) (q : Queue) (held : List HeldEvent) (n : ℕ) (who : Who) (d : Call) (why : RefusalCode) (jobs : HeldJobs) : Type 0 where
  pub refused : IsLawfulRefusal (force_of old) who d why jobs
  pub waiting : jobs.waiting ≡ map (λ w. w.who) q.callers
  pub lost : (force_of old).lost ≡ None
  pub fits : FitsJob (force_of old).job held
  pub marked : HasMarked old new (mark.Refused n who d why jobs ∷ [])
  pub course : new.course ≡ old.course
  pub settled : IsSettled new

away_by : (old new : Recorded) (q : Queue) (held : List HeldEvent) (n : ℕ) (who : Who) (d : Call) (why : RefusalCode) (jobs : HeldJobs) → TurnsAway old new q held n who d why jobs
    → WaitsWith (force_of new) (force_of new).job old.course
away_by old new q held n who d why jobs h = subst (λ (a : Option Asked). WaitsWith (force_of new) (force_of new).job a) h.course h.settled.waits

same_job : (old new : Recorded) (q : Queue) (held : List HeldEvent) (n : ℕ) (who : Who) (d : Call) (why : RefusalCode) (jobs : HeldJobs) → TurnsAway old new q held n who d why jobs → (force_of new).job ≡ (force_of old).job
same_job old new q held n who d why jobs h = ap (λ (s : Standing). s.job) (force_after old new (mark.Refused n who d why jobs ∷ []) h.marked)

pub look_turned : (old new : Recorded) (q : Queue) (held : List HeldEvent) (ears : Option LentEars) (n : ℕ) (who : Who) (d : Call) (first : First) (jobs : HeldJobs)
    → CanLook (cell_of old q held ears) n who d first → TurnsAway old new q held n who d code.TooManyWaiting jobs
    → HasTurned (turning old q held ears) (turning new (left_queue q n who) held ears) (step.Look n who d first) (mark.Refused n who d code.TooManyWaiting jobs ∷ [])
unfolding standing_in
look_turned old new q held ears n who d first jobs can h =
    let m : Mark ℕ = mark.Refused n who d code.TooManyWaiting jobs in
    let c : Cell = cell_of old q held ears in
    let job : (force_of new).job ≡ (force_of old).job = same_job old new q held n who d code.TooManyWaiting jobs h in
    let fits : FitsJob (force_of new).job held = subst (λ (j : Option OpenJob). FitsJob j held) (sym job) h.fits in
    record {
      turn = record {
        can = can;
        left = (((record { numbered = refl; caller = refl; same_call = refl; waiting = h.waiting }, refl), h.refused), no_loss (force_of old) m h.lost, h.lost);
        cuts = h.marked.cuts;
        held = none_due_by (after (force_of old) m) (force_of old).job held h.fits;
      };
      leads = record {
        base = ap (λ (x : Chaptered). x.base) h.marked.history;
        marks = ap (λ (x : Chaptered). x.marks) h.marked.history;
        registrations = h.marked.kept;
        answers =
            subst (λ (a : Option Asked). AnswersAfter c (step.Look n who d first) (m ∷ []) (force_of new).job (answers_of a)) (sym h.course)
            (answers_turned (force_of new) c (force_of new).job old.course n n who who d d first code.TooManyWaiting jobs refl (away_by old new q held n who d code.TooManyWaiting jobs h));
        away = waits new (left_queue q n who) held ears h.settled.waits;
        held = held_looked c (force_of new) (force_of new).job n who d first fits;
        queue = refl;
        ears = refl;
      };
      chapter = ap (λ (x : Chaptered). x.chapter) h.marked.history;
    }

pub given_up : (old new : Recorded) (q : Queue) (held : List HeldEvent) (ears : Option LentEars) (n : ℕ) (who : Who) (d : Call) (jobs : HeldJobs)
    → CanTake (cell_of old q held ears) (step.GiveUp n who d) → TurnsAway old new q held n who d code.OperationTimeout jobs
    → HasTurned (turning old q held ears) (turning new (left_queue q n who) held ears) (step.GiveUp n who d) (mark.Refused n who d code.OperationTimeout jobs ∷ [])
unfolding standing_in
given_up old new q held ears n who d jobs can h =
    let m : Mark ℕ = mark.Refused n who d code.OperationTimeout jobs in
    let c : Cell = cell_of old q held ears in
    let job : (force_of new).job ≡ (force_of old).job = same_job old new q held n who d code.OperationTimeout jobs h in
    let fits : FitsJob (force_of new).job held = subst (λ (j : Option OpenJob). FitsJob j held) (sym job) h.fits in
    record {
      turn = record {
        can = can;
        left = (((record { numbered = refl; caller = refl; same_call = refl; waiting = h.waiting }, refl), h.refused), no_loss (force_of old) m h.lost, h.lost);
        cuts = h.marked.cuts;
        held = none_due_by (after (force_of old) m) (force_of old).job held h.fits;
      };
      leads = record {
        base = ap (λ (x : Chaptered). x.base) h.marked.history;
        marks = ap (λ (x : Chaptered). x.marks) h.marked.history;
        registrations = h.marked.kept;
        answers =
            subst (λ (a : Option Asked). AnswersAfter c (step.GiveUp n who d) (m ∷ []) (force_of new).job (answers_of a)) (sym h.course)
            (answers_given_up (force_of new) c (force_of new).job old.course n n who who d d code.OperationTimeout jobs refl (away_by old new q held n who d code.OperationTimeout jobs h));
        away = waits new (left_queue q n who) held ears h.settled.waits;
        held = held_given_up c (force_of new) (force_of new).job n who d fits;
        queue = refl;
        ears = refl;
      };
      chapter = ap (λ (x : Chaptered). x.chapter) h.marked.history;
    }

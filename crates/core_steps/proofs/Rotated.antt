-- Why a chapter's end is one step of the cell.
use Rattle.std.proofs.Common.{◌≡◌, ℕ, ◌+◌, List, [], ◌∷◌, Option, None, Some, inl, inr, refl, sym, ap, ◌∙◌, subst, append-nil}
use Rattle.domain_spec.specs.Types.{Answer, Call, Who}
use Rattle.domain_spec.specs.declared.core_step.CoreStep.TheVariants as step
use Rattle.domain_spec.specs.declared.core_step.First.{First}
use Rattle.domain_spec.specs.declared.open.OpenJob.{OpenJob}
use Rattle.domain_spec.specs.declared.standing.Standing.{Standing}
use Rattle.domain_spec.specs.CanTake.{CanTake}
use Rattle.domain_spec.specs.Cell.{Cell, HeldEvent, LentEars, Queue, standing_of}
use Rattle.domain_spec.specs.Chapter.{next_base}
use Rattle.domain_spec.specs.Kept.{held_by, left_queue}
use Rattle.domain_spec.specs.Turns.{AllHaveRoom, AnswersAfter}
use Rattle.core_log.specs.Below.core_plan.Along.{Asked}
use Rattle.core_log.specs.Below.core_flight.Away.{WaitsWith}
use Rattle.core_log.specs.Below.core_flight.Ledger.{Chaptered, standing_in}
use Rattle.event_queue.specs.Listening.{Listening, registrations}
use Rattle.core_log.specs.Record.{Recorded, force_of}
use Rattle.core_steps.specs.Turning.{FitsJob, HasTurned, IsSettled, Turning, answers_of, cell_of, turning}
use Rattle.core_steps.proofs.Idling.{look_idle, none_due_by}
use Rattle.core_steps.proofs.Waiting.{waits}
use Rattle.core_steps.specs.ClientLaws.{RotatesAreTurns, UnrotatedAreBeginnings, UnrotatedAreLooks, UnrotatedAreTakingsUp}
use Rattle.core_steps.specs.Clients.{BeginsNext}
use Rattle.core_steps.proofs.RestingTurns.{begin_held, idle_begin, idle_take_up, take_up_held}

-- no call is away where none is open

none_away : (s : Standing) (j : Option OpenJob) (a : Option Asked) → j ≡ None → WaitsWith s j a → a ≡ None
none_away s None None e h = refl
none_away s None (Some a) e h = absurd h
none_away s (Some j) a e h = cc

-- the record at the beginning of the next chapter
abbrev next_record : Recorded → ℕ → Recorded
next_record r spare = record {
  history = record { chapter = r.history.chapter + 1; base = next_base (force_of r) (registrations r.listeners); marks = [] };
  course = None;
  listeners = r.listeners;
  spare = spare;
}

record_is : (r : Recorded) (h : Chaptered) (ls : List Listening) → r.history ≡ h → r.course ≡ None → r.listeners ≡ ls → r ≡ record { history = h; course = None; listeners = ls; spare = r.spare }
record_is r h ls e f g =
    ap (λ (x : Chaptered). record { history = x; course = r.course; listeners = r.listeners; spare = r.spare }) e
    ∙ ap (λ (a : Option Asked). record { history = h; course = a; listeners = r.listeners; spare = r.spare }) f
    ∙ ap (λ (xs : List Listening). record { history = h; course = None; listeners = xs; spare = r.spare }) g

begun : (old : Recorded) (q : Queue) (held : List HeldEvent) (ears : Option LentEars) (n : ℕ) (who : Who) (spare : ℕ) → CanTake (cell_of old q held ears) (step.Rotate n who) → IsSettled old
    → AllHaveRoom (registrations old.listeners) → FitsJob (force_of old).job held → (force_of old).job ≡ None → HasTurned (turning old q held ears) (turning (next_record old spare) q held ears) (step.Rotate n who) []
unfolding standing_in
begun old q held ears n who spare can settled room fits free =
    let none : held ≡ [] = subst (λ (j : Option OpenJob). FitsJob j held) free fits in
    record {
      turn = record { can = can; left = settled.lost; cuts = room; held = none_due_by (force_of old) (force_of old).job held fits };
      leads = record { base = refl; marks = refl; registrations = refl; answers = refl; away = tt; held = none; queue = inl refl; ears = refl };
      chapter = refl;
    }

pub rotates_are : RotatesAreTurns
unfolding standing_in
rotates_are old new q held ears n who can settled room fits h =
    let free : (force_of old).job ≡ None = can.1 in
    let none : new.course ≡ None = h.course ∙ none_away (force_of old) (force_of old).job old.course free settled.waits in
    let same : new ≡ next_record old new.spare = record_is new (next_record old new.spare).history old.listeners h.history none h.listeners in (
      [],
      subst (λ (r : Recorded). HasTurned (turning old q held ears) (turning r q held ears) (step.Rotate n who) []) (sym same) (begun old q held ears n who new.spare can settled room fits free),
      refl,
    )

-- where there was no memory

pub looks_are : UnrotatedAreLooks
looks_are r q held ears n who d first can settled room fits = ([], look_idle r q (left_queue q n who) held ears n who d first can settled room fits (inl refl), refl)

pub beginnings_are : UnrotatedAreBeginnings
unfolding standing_in
beginnings_are r q held ears n who d can settled room fits =
    let c : Cell = cell_of r q held ears in (
      [],
      record {
        turn = record { can = can; left = settled.lost; cuts = room; held = none_due_by (force_of r) (force_of r).job held fits };
        leads = record {
          base = refl;
          marks = sym (append-nil r.history.marks);
          registrations = refl;
          answers = idle_begin (force_of r) c n who d (force_of r).job r.course refl settled.waits;
          away = waits r (left_queue q n who) held ears settled.waits;
          held = begin_held c (force_of r) n who d (force_of r).job fits;
          queue = inl refl;
          ears = refl;
        };
        chapter = refl;
      },
      refl,
    )

pub takings_up_are : UnrotatedAreTakingsUp
unfolding standing_in
takings_up_are r q held ears n who d can settled room fits =
    let c : Cell = cell_of r q held ears in (
      [],
      record {
        turn = record { can = can; left = settled.lost; cuts = room; held = none_due_by (force_of r) (force_of r).job held fits };
        leads = record {
          base = refl;
          marks = sym (append-nil r.history.marks);
          registrations = refl;
          answers = idle_take_up (force_of r) c n who d (force_of r).job r.course refl settled.waits;
          away = waits r (left_queue q n who) held ears settled.waits;
          held = take_up_held c (force_of r) n who d (force_of r).job fits;
          queue = inl refl;
          ears = refl;
        };
        chapter = refl;
      },
      refl,
    )

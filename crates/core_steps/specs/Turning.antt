-- A domain between two turns, as the contracts of its turns see it, and what a turn leaves.
use Rattle.std.specs.Prelude.{◌≡◌, ℕ, ◌+◌, List, [], ◌∷◌, ◌++◌, Bool, Option, None, Some}
use Rattle.domain_spec.specs.Types.{Answer, Ask, DomainDef, Reply}
use Rattle.domain_spec.specs.declared.core_step.CoreStep.{CoreStep}
use Rattle.domain_spec.specs.declared.core_step.CoreStep.TheVariants as step
use Rattle.domain_spec.specs.declared.mark.Mark.{Mark}
use Rattle.domain_spec.specs.declared.mark.Mark.TheVariants as mark
use Rattle.domain_spec.specs.declared.open.OpenJob.{OpenJob}
use Rattle.domain_spec.specs.Cell.{Cell, HeldEvent, LentEars, OpenCall, Queue}
use Rattle.domain_spec.specs.Chapter.{first_base}
use Rattle.domain_spec.specs.Turns.{IsTurn, Leads}
use Rattle.core_log.specs.Below.core_plan.Along.{Asked}
use Rattle.core_log.specs.Below.core_flight.Away.{WaitsWith}
use Rattle.event_queue.specs.Listening.{Listening, registrations}
use Rattle.core_log.specs.Record.{Recorded, force_of}

-- the number of the chapter, the cell, the course of the call that is away, and who is registered
pub record Turning : Type 0 where
  pub chapter : ℕ
  pub cell : Cell
  pub course : Option Asked
  pub listeners : List Listening

-- the answers so far
abbrev pub answers_of : Option Asked → List Answer
answers_of None = []
answers_of (Some a) = a.answers

-- the cell with this record, queue and held events, of which these ears are out
abbrev pub cell_of : Recorded → Queue → List HeldEvent → Option LentEars → Cell
cell_of r queue held ears = record {
  base = r.history.base;
  marks = r.history.marks;
  registrations = registrations r.listeners;
  answers = answers_of r.course;
  queue = queue;
  held = held;
  ears = ears;
}

-- all of it
abbrev pub turning : Recorded → Queue → List HeldEvent → Option LentEars → Turning
turning r queue held ears =
    record { chapter = r.history.chapter; cell = cell_of r queue held ears; course = r.course; listeners = r.listeners }

-- the chapter after a turn
abbrev pub chapter_after : ℕ → CoreStep ℕ → ℕ
chapter_after n (step.Rotate number who) = n + 1
chapter_after n other = n

-- one turn: this step left these marks, and the cell is this afterwards
pub record HasTurned (old new : Turning) (t : CoreStep ℕ) (left : List (Mark ℕ)) : Type 0 where
  pub turn : IsTurn old.cell t left
  pub leads : Leads old.cell t left new.cell
  pub chapter : new.chapter ≡ chapter_after old.chapter t

-- a turn of this step that left some marks, of which this holds
abbrev pub Takes : Turning → Turning → CoreStep ℕ → (List (Mark ℕ) → Type 0) → Type 0
Takes old new t Holds = (left : List (Mark ℕ)) × HasTurned old new t left × Holds left

-- the Done among these marks has this reply, under this number
abbrev pub HasDone : ℕ → Reply → List (Mark ℕ) → Type 0
HasDone n r [] = ⊥
HasDone n r (mark.Done number who d boot asks answers reply events ∷ left) = (number ≡ n) × (reply ≡ r)
HasDone n r (m ∷ left) = HasDone n r left

-- the open call asks this last, and waits for its answer
abbrev pub AsksLast : Option OpenCall → Ask → Type 0
AsksLast None x = ⊥
AsksLast (Some c) x = (before : List Ask) × (c.asks ≡ before ++ x ∷ [])

-- where no call is open nothing is held
abbrev pub FitsJob : Option OpenJob → List HeldEvent → Type 0
FitsJob None held = held ≡ []
FitsJob (Some j) held = Unit {0}

-- a domain as the store was opened: nobody waits or is registered
abbrev pub new_turning : Option DomainDef → Bool → Turning
new_turning stored autostart = record {
  chapter = 0;
  cell = record {
    base = first_base stored autostart;
    marks = [];
    registrations = [];
    answers = [];
    queue = record { callers = []; passes = [] };
    held = [];
    ears = None;
  };
  course = None;
  listeners = [];
}

-- no boot's end is left to be marked, and between two turns a call is open exactly where it is away
pub record IsSettled (r : Recorded) : Type 0 where
  pub lost : (force_of r).lost ≡ None
  pub waits : WaitsWith (force_of r) (force_of r).job r.course

-- A domain's history with its listeners, as contracts see it: after each mark that tells something they hear
-- it, and those that overflow are cut before the next mark comes.
use Rattle.std.specs.Prelude.{◌≡◌, ◌≤◌, ℕ, ◌-◌, List, [], ◌∷◌, ◌++◌, length, map, Option, None, Some}
use Rattle.domain_spec.specs.Types.{Answer, Ask, Call, Reply, Transition, Who}
use Rattle.domain_spec.specs.declared.mark.Mark.{Mark}
use Rattle.domain_spec.specs.declared.mark.Mark.TheVariants as mark
use Rattle.domain_spec.specs.declared.standing.Registration.{Registration}
use Rattle.domain_spec.specs.declared.standing.Standing.{Standing}
use Rattle.domain_spec.specs.Call.{job_of}
use Rattle.domain_spec.specs.CanTake.{IsQuiet}
use Rattle.domain_spec.specs.ChapterLaws.{Agree}
use Rattle.domain_spec.specs.Fold.{registered}
use Rattle.domain_spec.specs.Legal.{IsLegal}
use Rattle.domain_spec.specs.Registrations.{registrations_at, with_pending}
use Rattle.domain_spec.specs.Turns.{AllHaveRoom, AreCut}
use Rattle.core_rules.specs.declared.next.Next.TheVariants as next
use Rattle.core_flight.specs.Below.core_plan.Along.{Asked, answered}
use Rattle.core_flight.specs.Below.core_plan.Starving.{next_in, starved}
use Rattle.core_flight.specs.Below.core_plan.Going.{first_course}
use Rattle.core_flight.specs.Below.core_plan.PhaseCopying.{with_answer}
use Rattle.core_flight.specs.Ledger.{Chaptered, IsDoneLawful, IsPhaseLawful, IsTold, Ledgered, answered_in, closing, phase_closing, standing_in, step_in, with_marks}
use Rattle.core_flight.specs.Told.{told_last}
use Rattle.core_flight.specs.declared.ledger.Back.{Back}
use Rattle.core_flight.specs.declared.ledger.Back.TheVariants as back
use Rattle.core_flight.specs.declared.ledger.Entry.{Entry}
use Rattle.core_flight.specs.declared.ledger.Entry.TheVariants as entry
use Rattle.core_flight.specs.declared.phase_out.Step.{Step}
use Rattle.event_queue.specs.Listening.{AreApart, Listening, hears, registrations}
use Rattle.event_queue.specs.Telling.{cuts_due}

-- a chapter's history, the course of the call that is away, who is registered, and for how many more marks
-- there is room besides those by which registrations end
pub record Recorded : Type 0 where
  pub history : Chaptered
  pub course : Option Asked
  pub listeners : List Listening
  pub spare : ℕ

-- what is in force now
abbrev pub force_of : Recorded → Standing
force_of r = standing_in r.history

-- how many of these may still end by a mark: those that were not cut
abbrev pub open_ends : List Registration → ℕ
open_ends rs = length (registered rs)

-- a ledger with these listeners; for each that may end by a mark there is room for it
abbrev pub recorded : Ledgered → List Listening → Recorded
recorded l ls = record { history = l.history; course = l.course; listeners = ls; spare = l.spare - open_ends (registrations ls) }

-- the listeners are those of the history
pub record IsHeld (l : Ledgered) (ls : List Listening) : Type 0 where
  pub agree : Agree (registrations ls) (standing_in l.history)
  pub apart : AreApart ls
  pub room : AllHaveRoom (registrations ls)
  pub ends : open_ends (registrations ls) ≤ l.spare

-- the cuts that are due where these registrations are told this
abbrev pub cuts_after : List Registration → List Transition → List (Mark ℕ)
cuts_after rs events = cuts_due (map (with_pending events) rs)

-- marks of which the last alone tells something, and then the cuts that are due
abbrev pub with_cuts : List Listening → List (Mark ℕ) → List (Mark ℕ)
with_cuts ls marks = marks ++ cuts_after (registrations ls) (told_last marks)

-- these marks were added, and what is kept for the registrations is what they make of it
pub record HasMarked (old new : Recorded) (marks : List (Mark ℕ)) : Type 0 where
  pub history : new.history ≡ with_marks old.history marks
  pub kept : registrations new.listeners ≡ registrations_at (registrations old.listeners) marks
  pub legal : IsLegal (force_of old) marks
  pub cuts : AreCut (registrations old.listeners) marks

-- marks of which the last alone tells something, which the listeners heard
pub record Tells (old new : Recorded) (marks : List (Mark ℕ)) : Type 0 where
  pub marked : HasMarked old new (with_cuts old.listeners marks)
  pub listeners : new.listeners ≡ map (hears (told_last marks)) old.listeners

-- after these marks the call that is open is done with what this course asked and was answered
pub record IsDoneWith (old : Recorded) (before : List (Mark ℕ)) (n : ℕ) (a : Asked) (new : Recorded) (r : Reply) : Type 0 where
  pub told :
      let s = standing_in (with_marks old.history before) in
      Tells old new (before ++ closing s s.job n a) × IsDoneLawful s s.job n a × IsTold s s.job a r
  pub none_away : new.course ≡ None

-- after these marks the due phase of the operation is done with what this course asked and was answered
pub record IsPhasedWith (old : Recorded) (before : List (Mark ℕ)) (n : ℕ) (a : Asked) (new : Recorded) (st : Step) : Type 0 where
  pub told :
      let s = standing_in (with_marks old.history before) in
      Tells old new (before ++ phase_closing s s.operation n a) × IsPhaseLawful s s.operation n a
  pub leads :
      let h = with_marks old.history before in
      st ≡ step_in (standing_in (with_marks h (phase_closing (standing_in h) (standing_in h).operation n a))).operation
  pub none_away : new.course ≡ None

-- after these marks a call, or a phase, is away, and asks this
pub record IsAsking (old : Recorded) (before : List (Mark ℕ)) (a : Asked) (new : Recorded) (x : Ask) : Type 0 where
  pub marked : HasMarked old new before
  pub listeners : new.listeners ≡ old.listeners
  pub away : new.course ≡ Some a
  pub asks : next_in a ≡ next.Ask x

-- the mark of a call that is let in
abbrev pub admit_of : ℕ → Who → Call → Option ℕ → Mark ℕ
admit_of n who c boot = mark.Admit n who (job_of c) c boot

-- a call was let in: it is done at once, or asks somebody; for some asks there was no memory
abbrev pub LetsIn : ℕ → Who → Call → Option ℕ → Recorded → Recorded → Entry → Type 0
LetsIn n who c boot old new entry.NoMemory = new ≡ old
LetsIn n who c boot old new (entry.Done r) =
    (count : ℕ) × IsDoneWith old (admit_of n who c boot ∷ []) n (starved count (first_course (force_of old).state c boot)) new r
LetsIn n who c boot old new (entry.Away x) =
    (count : ℕ) × IsAsking old (admit_of n who c boot ∷ []) (starved count (first_course (force_of old).state c boot)) new x

-- the last ask was answered so: the call or the phase is done, or asks somebody next
abbrev pub GoesBack : ℕ → Option Asked → Answer → Recorded → Recorded → Back → Type 0
GoesBack n None x old new result = ⊥
GoesBack n (Some a) x old new (back.Done r) = (count : ℕ) × IsDoneWith old [] n (starved count (answered a x)) new r
GoesBack n (Some a) x old new (back.Away y) = (count : ℕ) × IsAsking old [] (starved count (answered_in (force_of old).job a x)) new y
GoesBack n (Some a) x old new (back.Phased st) = (count : ℕ) × IsPhasedWith old [] n (starved count (with_answer a x)) new st

-- the registration is of this number, and nothing pends for it
abbrev pub IsQuietOf : Option Listening → ℕ → Type 0
IsQuietOf None n = ⊥
IsQuietOf (Some l) n = (l.kept.number ≡ n) × IsQuiet l.kept

-- a call, or a phase, that asks on takes no room
abbrev pub StaysAway : Recorded → Recorded → Back → Type 0
StaysAway old new (back.Away x) = new.spare ≡ old.spare
StaysAway old new other = Unit {0}

-- What the turn of an open call comes to, over the chapter.
use Rattle.std.specs.Prelude.{◌≡◌, ℕ, ◌++◌, Bool, false, Option, None, Some}
use Rattle.history_spec.specs.declared.stamp.Stamp.{Stamp}
use Rattle.domain_spec.specs.Types.{Answer, Call, State, Who}
use Rattle.domain_spec.specs.declared.open.OpenJob.{OpenJob}
use Rattle.domain_spec.specs.declared.standing.Standing.{Standing}
use Rattle.domain_spec.specs.Sequential.{meets_ended}
use Rattle.core_rules.specs.declared.next.Next.TheVariants as next
use Rattle.core_plan.specs.Along.{Asked, answered}
use Rattle.core_plan.specs.Starving.{AreAsks, next_in, starved}
use Rattle.core_plan.specs.AwayLaws.{made}
use Rattle.core_plan.specs.Going.{first_course}
use Rattle.core_plan.specs.Below.core_dispatch.Fits.{FitsCall}
use Rattle.core_plan.specs.Below.core_dispatch.declared.calls.CallParts.{CallParts}
use Rattle.core_chapter.specs.Closing.{CanDo, done_in, told_in}
use Rattle.core_chapter.specs.Numbered.{all_numbered}
use Rattle.core_chapter.specs.Standing.{HistoryWithRoom, in_force}
use Rattle.core_flight.specs.Away.{HasRooms, IsOut}
use Rattle.core_flight.specs.Ledger.{CanAnswer, Chaptered, IsClosed, admitted}
use Rattle.core_flight.specs.declared.away.Away.{Away}
use Rattle.core_flight.specs.declared.away.Ready.{Ready}
use Rattle.core_flight.specs.declared.out.Out.TheVariants as out
use Rattle.core_flight.specs.declared.turns.Turn.{Turn}
use Rattle.core_flight.specs.declared.turns.Turn.TheVariants as turn

-- what is in force in this chapter
abbrev pub force_in : HistoryWithRoom → Standing
force_in c = in_force c.history.base c.history.marks

-- the history of a chapter, with the numbers of passes
abbrev pub shown : HistoryWithRoom → Chaptered
shown c = record { chapter = c.history.chapter; base = c.history.base; marks = all_numbered c.history.marks }

-- all that a call needs that is let in here, carrying this boot
pub record IsReady (s : State) (c : Call) (boot : Option ℕ) (r : Ready) : Type 0 where
  pub course : r.away.course ≡ first_course s c boot
  pub parts : FitsCall r.away.parts s c boot
  pub rooms : HasRooms r.away
  pub own : r.own ≡ c
  pub in_mark : r.in_mark ≡ c

-- whichever asks find no memory, the open call can be done once nothing is left to be asked
abbrev pub CanGoOn : Standing → CallParts → Stamp → Asked → Type 0
CanGoOn s parts by a =
    (count : ℕ) → AreAsks count a → next_in (starved count a) ≡ next.Finish
    → CanDo s s.job parts by (made (starved count a)) (starved count a).answers

-- the open call asks somebody, or is done
abbrev pub TurnsTo : Stamp → Away → HistoryWithRoom → HistoryWithRoom → Turn → Type 0
TurnsTo by w old new (turn.Away v x) =
    (count : ℕ) × AreAsks count w.course × (v ≡ record w { course = starved count w.course }) × (next_in (starved count w.course) ≡ next.Ask x) × (new ≡ old)
TurnsTo by w old new (turn.Done r) =
    (count : ℕ) × AreAsks count w.course × (next_in (starved count w.course) ≡ next.Finish)
    × (new.history ≡ record old.history { marks = old.history.marks ++ done_in (force_in old) by (made (starved count w.course)) (starved count w.course).answers })
    × (r ≡ told_in (force_in old) (starved count w.course).answers)

-- after this history the call is away with this course, or done with it
abbrev pub LeadsTo : Chaptered → ℕ → Asked → HistoryWithRoom → Turn → Type 0
LeadsTo h n a new (turn.Away v x) = (v.course ≡ a) × (next_in a ≡ next.Ask x) × (shown new ≡ h) × IsOut (force_in new) (force_in new).job (Some (out.Call v))
LeadsTo h n a new (turn.Done r) = IsClosed h n a (shown new) r × ((force_in new).job ≡ None)

-- a call that is let in
abbrev pub Enters : ℕ → Who → Call → Option ℕ → HistoryWithRoom → HistoryWithRoom → Turn → Type 0
Enters n who c boot old new t =
    (count : ℕ) × LeadsTo (admitted (shown old) n who c boot) n (starved count (first_course (force_in old).state c boot)) new t

-- a call that is answered
abbrev pub Resumes : ℕ → Asked → Answer → HistoryWithRoom → HistoryWithRoom → Turn → Type 0
Resumes n a x old new t = (count : ℕ) × LeadsTo (shown old) n (starved count (answered a x)) new t

-- the boot of the open call has ended
abbrev pub is_over : Standing → Option OpenJob → Bool
is_over s None = false
is_over s (Some j) = meets_ended s.state j.call j.boot

-- the call that is away may be answered so under this number
abbrev pub MayAnswerCall : Standing → Option OpenJob → Asked → ℕ → Answer → Type 0
MayAnswerCall s None a n x = ⊥
MayAnswerCall s (Some j) a n x = (n ≡ j.number) × CanAnswer s j a x

-- a call that asks on takes no room
abbrev pub StaysAway : HistoryWithRoom → HistoryWithRoom → Turn → Type 0
StaysAway old new (turn.Away v x) = new.spare ≡ old.spare
StaysAway old new (turn.Done r) = Unit {0}

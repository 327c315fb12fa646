-- A domain's cell between two turns: its history, and what it keeps beside that, for each number alone.
use Rattle.std.specs.Prelude.{ℕ, ◌==◌, List, [], ◌++◌, map, filter, find, take, not, ◌&&◌, Bool, Option, None, Some, option_map, unwrap_or, if◌then◌else◌}
use Rattle.domain_spec.specs.Types.{Answer, Ask, GuestEvent, Job, State, Who}
use Rattle.domain_spec.specs.Types.job
use Rattle.domain_spec.specs.declared.mark.Mark.{Mark}
use Rattle.domain_spec.specs.declared.open.OpenJob.{OpenJob}
use Rattle.domain_spec.specs.declared.open.OpenOperation.{OpenOperation}
use Rattle.domain_spec.specs.declared.standing.Base.{Base}
use Rattle.domain_spec.specs.declared.standing.Registration.{Registration}
use Rattle.domain_spec.specs.declared.standing.Standing.{Standing}
use Rattle.domain_spec.specs.Fold.{at_base, standing}
use Rattle.domain_spec.specs.Open.{is_rest}
use Rattle.domain_spec.specs.Phase.{phase_asked, phase_still_asked}
use Rattle.domain_spec.specs.Sequential.{asked, still_asked}

-- a caller that waits, and how many of its looks found it excluded
pub record Waiter : Type 0 where
  pub who : Who
  pub looks : ℕ

-- a pass by which a caller waits
pub record WaitingPass : Type 0 where
  pub number : ℕ
  pub who : Who

-- who waits: the callers, each once, as they came, and the passes by which they wait
pub record Queue : Type 0 where
  pub callers : List Waiter
  pub passes : List WaitingPass

-- what a guest did while a job was open; it is applied once none is
pub record HeldEvent : Type 0 where
  pub boot : ℕ
  pub event : GuestEvent

-- ears that are out: the number of the pass that has them, their boot, and whether what they heard was told: there is
-- room to tell one thing
pub record LentEars : Type 0 where
  pub number : ℕ
  pub boot : ℕ
  pub told : Bool

-- a domain's cell: `answers` are those of the open call or phase so far
pub record Cell : Type 0 where
  pub base : Base
  pub marks : List (Mark ℕ)
  pub registrations : List Registration
  pub answers : List Answer
  pub queue : Queue
  pub held : List HeldEvent
  pub ears : Option LentEars

-- what is in force after the cell's marks
abbrev pub standing_of : Cell → Standing
standing_of c = standing (at_base c.base) c.marks

-- an open call, as it was let in, with its ticket: what it has asked, the ask that waits among them, and what was
-- answered
pub record OpenCall : Type 0 where
  pub job : OpenJob
  pub asks : List Ask
  pub answers : List Answer

-- a registration, and how many transitions it took
pub record Taken : Type 0 where
  pub client : ℕ
  pub taken : ℕ

-- what a cell keeps for one number alone: who waits by it, its open call, its operation unless that rests,
-- its registrations, and the ears that it has out
pub record Share : Type 0 where
  pub waits : Option Who
  pub call : Option OpenCall
  pub operation : Option OpenOperation
  pub registrations : List Taken
  pub ears : Option LentEars

-- the state in which an open call's asks were planned: where its boot has ended, the one just before
abbrev pub planned_at : State → OpenJob → State
planned_at s j = unwrap_or j.before s

-- what the due phase has asked after these answers
abbrev pub phase_asks : State → Option OpenOperation → List Answer → List Ask
phase_asks s None answers = []
phase_asks s (Some o) answers = phase_asked s o answers ++ take 1 (phase_still_asked s o answers)

-- what a call has asked after these answers
abbrev pub call_asks : State → OpenJob → List Answer → List Ask
call_asks s j answers = asked s j.call j.boot answers ++ take 1 (still_asked s j.call j.boot answers)

-- what an open call has asked after these answers; the last ask may wait for its own
abbrev pub asks_so_far : Standing → Job → OpenJob → List Answer → List Ask
asks_so_far s job.Nested j answers = phase_asks (planned_at s.state j) s.operation answers
asks_so_far s other j answers = call_asks (planned_at s.state j) j answers

-- the call as it was let in, whatever ended since
abbrev pub as_let_in : OpenJob → OpenJob
as_let_in j = record j { before = None }

-- the open call, where it is of this number
abbrev pub call_of : Standing → Option OpenJob → List Answer → ℕ → Option OpenCall
call_of s None answers n = None
call_of s (Some j) answers n =
    if j.number == n then Some (record { job = as_let_in j; asks = asks_so_far s j.job j answers; answers = answers }) else None

-- the open operation, where it is of this number and does not rest
abbrev pub operation_of : Option OpenOperation → ℕ → Option OpenOperation
operation_of None n = None
operation_of (Some o) n = if o.number == n && not (is_rest o.outcome) then Some o else None

-- the ears that this number has out
abbrev pub ears_of : Option LentEars → ℕ → Option LentEars
ears_of None n = None
ears_of (Some ears) n = if ears.number == n then Some ears else None

-- the caller that waits by this number
abbrev pub waits_of : List WaitingPass → ℕ → Option Who
waits_of passes n = option_map (λ p. p.who) (find (λ p. p.number == n) passes)

-- what the cell keeps for this number
abbrev pub share_of : Cell → ℕ → Share
share_of c n = record {
  waits = waits_of c.queue.passes n;
  call = call_of (standing_of c) (standing_of c).job c.answers n;
  operation = operation_of (standing_of c).operation n;
  registrations = map (λ r. record { client = r.client; taken = r.taken }) (filter (λ r. r.number == n) c.registrations);
  ears = ears_of c.ears n;
}

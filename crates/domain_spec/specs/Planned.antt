-- When the asks and answers of a call are those that were planned for it.
use Rattle.std.specs.Prelude.{◌≡◌, ℕ, List, [], ◌∷◌, length, Bool, true, false, Option, None, Some}
use Rattle.std.specs.List.{list_any}
use Rattle.domain_spec.specs.Types.{Answer, Ask, Call, State, Who}
use Rattle.domain_spec.specs.Types.answer
use Rattle.domain_spec.specs.Types.ask
use Rattle.domain_spec.specs.Types.phase
use Rattle.domain_spec.specs.Types.given
use Rattle.domain_spec.specs.declared.open.OpenJob.{OpenJob}
use Rattle.domain_spec.specs.declared.open.OpenOperation.{OpenOperation}
use Rattle.domain_spec.specs.declared.step.Outcome.{Outcome}
use Rattle.domain_spec.specs.declared.step.Outcome.TheVariants as outcome
use Rattle.domain_spec.specs.Asks.{is_ended_answer}
use Rattle.domain_spec.specs.Call.{job_of}

-- this call is open under this number
pub record IsOpen (j : OpenJob) (number : ℕ) (who : Who) (c : Call) (boot : Option ℕ) : Type 0 where
  pub numbered : number ≡ j.number
  pub caller : who ≡ j.who
  pub same_call : c ≡ j.call
  pub same_boot : boot ≡ j.boot
  pub own_job : j.job ≡ job_of c

-- the asks were planned where the boot was live: in the state now, or in the one just before the
-- boot ended; where it was never live there are none
abbrev pub WerePlanned : Option State → (State → List Ask) → List Ask → List Answer → Type 0
WerePlanned None made asks answers = (asks ≡ []) × (answers ≡ [])
WerePlanned (Some s) made asks answers = (asks ≡ made s) × (length asks ≡ length answers)

-- the state in which the asks were planned: this one, or the one before the boot ended
abbrev pub planned_in : Bool → State → Option State → Option State
planned_in true s before = before
planned_in false s before = Some s

-- where an ask was answered Ended, the boot's end was marked before
abbrev pub EndedFirst : Bool → List Answer → Type 0
EndedFirst true answers = Unit {0}
EndedFirst false answers = list_any is_ended_answer answers ≡ false

-- an answer Ok without a value, or that there was no memory
abbrev pub IsUnsent : Answer → Type 0
IsUnsent (answer.Ok given.Nothing) = Unit {0}
IsUnsent answer.NoMemory = Unit {0}
IsUnsent other = ⊥

-- each command is answered as one that was not sent
abbrev pub AreUnsent : List Ask → List Answer → Type 0
AreUnsent (ask.Command c ∷ asks) (a ∷ answers) = IsUnsent a × AreUnsent asks answers
AreUnsent (other ∷ asks) (a ∷ answers) = AreUnsent asks answers
AreUnsent asks answers = Unit {0}

-- so it is for a call on the boot whose make is due
abbrev pub UnsentBefore : Option ℕ → Option ℕ → Outcome → List Ask → List Answer → Type 0
UnsentBefore (Some made) (Some boot) (outcome.On phase.Make) asks answers = made ≡ boot → AreUnsent asks answers
UnsentBefore made boot o asks answers = Unit {0}

-- until the make of a boot is done, a command of another call is not sent, and is answered Ok
-- without a value
abbrev pub IsUnsentUntilMade : Option OpenOperation → Option ℕ → List Ask → List Answer → Type 0
IsUnsentUntilMade None boot asks answers = Unit {0}
IsUnsentUntilMade (Some o) boot asks answers = UnsentBefore o.boot boot o.outcome asks answers

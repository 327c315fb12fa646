-- A call that is away waits for an answer in its cell.
use Rattle.std.proofs.Common.{◌≡◌, ℕ, List, Option, None, Some, inl, inr, refl, ap, subst}
use Rattle.domain_spec.specs.declared.open.OpenJob.{OpenJob}
use Rattle.domain_spec.specs.declared.open.OpenOperation.{OpenOperation}
use Rattle.domain_spec.specs.declared.standing.Standing.{Standing}
use Rattle.domain_spec.specs.CanTake.{WaitsForAnswer}
use Rattle.domain_spec.specs.Cell.{HeldEvent, LentEars, Queue}
use Rattle.core_log.specs.Below.core_plan.Along.{Asked}
use Rattle.core_log.proofs.Below.core_flight.Turned.{away_waits}
use Rattle.core_log.proofs.Below.core_flight.Operated.{away_phase_waits}
use Rattle.core_log.specs.Below.core_flight.Away.{IsPhaseWaiting, WaitsWith}
use Rattle.core_log.specs.Below.core_flight.Ledger.{standing_in}
use Rattle.core_log.specs.Record.{Recorded, force_of}
use Rattle.core_steps.specs.Turning.{answers_of, cell_of}

phase_waits : (r : Recorded) (q : Queue) (held : List HeldEvent) (ears : Option LentEars) (j : OpenJob) (a : Asked) (o : Option OpenOperation)
    → (force_of r).operation ≡ o → (force_of r).job ≡ Some j → r.course ≡ Some a → IsPhaseWaiting (force_of r).state o j a → WaitsForAnswer (cell_of r q held ears) (Some j)
unfolding standing_in
phase_waits r q held ears j a None at is e h = absurd h
phase_waits r q held ears j a (Some o) at is e h =
    subst (λ (x : Option OpenJob). WaitsForAnswer (cell_of r q held ears) x) is (away_phase_waits (cell_of r q held ears) j o a is at h (ap answers_of e))

waits_by : (r : Recorded) (q : Queue) (held : List HeldEvent) (ears : Option LentEars) (j : Option OpenJob) (a : Option Asked)
    → (force_of r).job ≡ j → r.course ≡ a → WaitsWith (force_of r) j a → WaitsForAnswer (cell_of r q held ears) j
unfolding standing_in
waits_by r q held ears None None is e h = tt
waits_by r q held ears None (Some a) is e h = absurd h
waits_by r q held ears (Some j) None is e h = absurd h
waits_by r q held ears (Some j) (Some a) is e (inr h) = phase_waits r q held ears j a (force_of r).operation refl is e h
waits_by r q held ears (Some j) (Some a) is e (inl h) =
    subst (λ (x : Option OpenJob). WaitsForAnswer (cell_of r q held ears) x) is (away_waits (cell_of r q held ears) j a is h (ap answers_of e))

pub waits : (r : Recorded) (q : Queue) (held : List HeldEvent) (ears : Option LentEars) → WaitsWith (force_of r) (force_of r).job r.course → WaitsForAnswer (cell_of r q held ears) (force_of r).job
waits r q held ears h = waits_by r q held ears (force_of r).job r.course refl refl h

none_by : (s : Standing) (j : Option OpenJob) (a : Option Asked) → a ≡ None → WaitsWith s j a → j ≡ None
none_by s None a e h = refl
none_by s (Some j) None e h = absurd h
none_by s (Some j) (Some a) e h = cc

-- no call is open where none is away
pub none_open : (r : Recorded) → r.course ≡ None → WaitsWith (force_of r) (force_of r).job r.course → (force_of r).job ≡ None
none_open r e h = none_by (force_of r) (force_of r).job r.course e h

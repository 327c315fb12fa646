-- What an answer comes to is what its turn left.
use Rattle.std.proofs.Common.{◌≡◌, ℕ, List, Option, None, Some, refl, sym, ap, ◌∙◌}
use Rattle.domain_spec.specs.Types.{Answer}
use Rattle.domain_spec.specs.declared.core_step.CoreStep.TheVariants as step
use Rattle.domain_spec.specs.declared.open.OpenJob.{OpenJob}
use Rattle.domain_spec.specs.CanTake.{CanTake}
use Rattle.domain_spec.specs.Cell.{HeldEvent, LentEars, Queue}
use Rattle.domain_spec.specs.Turns.{AllHaveRoom}
use Rattle.core_log.specs.Below.core_plan.Along.{Asked, answered}
use Rattle.core_log.specs.Below.core_plan.Starving.{starved}
use Rattle.core_log.specs.Below.core_flight.Ledger.{answered_in}
use Rattle.core_log.specs.Below.core_flight.declared.ledger.Back.{Back}
use Rattle.core_log.specs.Below.core_flight.declared.ledger.Back.TheVariants as back
use Rattle.event_queue.specs.Listening.{registrations}
use Rattle.core_log.specs.Record.{Recorded, force_of}
use Rattle.core_steps.specs.Answering.{Answers, GoesBack, IsNotPhased, IsNumbered, held_after}
use Rattle.core_steps.specs.TurnLaws.{AnswersAreTurns}
use Rattle.core_steps.specs.Turning.{IsSettled, cell_of, turning}
use Rattle.core_steps.proofs.Answered.{back_away, back_done, ended_first, open_by}
use Rattle.core_steps.proofs.Applied.{all_applied, room_after}
use Rattle.core_steps.proofs.Asking.{asks_last}
use Rattle.core_steps.proofs.Waiting.{none_open}

numbered_of : (j : Option OpenJob) (k : OpenJob) (n : ℕ) → j ≡ Some k → IsNumbered j n → k.number ≡ n
numbered_of None k n e h = absurd h
numbered_of (Some j) k n e h = let same : j ≡ k = cc in sym (h ∙ ap (λ (x : OpenJob). x.number) same)

goes_by : (course : Option Asked) (old new : Recorded) (q : Queue) (held : List HeldEvent) (ears : Option LentEars) (n : ℕ) (x : Answer) (left : Back)
    → CanTake (cell_of old q held ears) (step.Back n x) → old.course ≡ course → AllHaveRoom (registrations old.listeners) → IsSettled old → IsSettled new → Answers n course x held old new left → IsNotPhased left
    → GoesBack n x (turning old q held ears) (turning new q (held_after left held) ears) left
goes_by None old new q held ears n x left can away room was settled h called = absurd h
goes_by (Some a) old new q held ears n x (back.Done r) can away room was settled h called =
    let c = cell_of old q held ears in
    let ended = ended_first c n x old h.0 room was.lost h.1 in
    let done = h.3 in
    let applied =
    all_applied c (step.Back n x) held done new (λ k y e. (k, e)) (room_after h.0 done _ h.4.told.0.marked) (none_open done h.4.none_away h.5.waits) h.5.lost h.6 in
    back_done old h.0 done new q held ears n a x h.2 r can away ended h.4 applied settled
goes_by (Some a) old new q held ears n x (back.Away y) can away room was settled h called =
    let c = cell_of old q held ears in
    let ended = ended_first c n x old h.0 room was.lost h.1 in
    let turned = back_away old h.0 new q held ears n a x h.2 y can away ended h.3 settled in
    let open_one = open_by (force_of new) (force_of new).job (starved h.2 (answered_in (force_of h.0).job a x)) new.course h.3.away settled.waits in (
      turned.0,
      turned.1,
      (
        turned.2,
        asks_last new q held ears open_one.0 (starved h.2 (answered_in (force_of h.0).job a x)) y n open_one.1 (numbered_of (force_of new).job open_one.0 n open_one.1 h.4) h.3.away settled.waits h.3.asks,
      ),
    )
goes_by (Some a) old new q held ears n x (back.Phased st) can away room was settled h called = absurd called

pub goes_back : AnswersAreTurns
goes_back old new q held ears n x left can room was settled h called = goes_by old.course old new q held ears n x left can refl room was settled h called

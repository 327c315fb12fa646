-- A whole operation against a list of answers. The answers are handed to it one after the other; each
-- phase takes as many as it has asks, and is done as soon as no ask is left to it. Nothing else
-- happens to the domain meanwhile, but that a boot ends where an answer says so.
use Rattle.std.specs.Prelude.{ℕ, ◌==◌, List, [], ◌∷◌, ◌++◌, length, Bool, Option, None, Some, option_map, if◌then◌else◌}
use Rattle.domain_spec.specs.Types.{Answer, EndReason, Phase, State, Transition}
use Rattle.domain_spec.specs.Types.answer
use Rattle.domain_spec.specs.Types.reason
use Rattle.domain_spec.specs.declared.open.OpenOperation.{OpenOperation}
use Rattle.domain_spec.specs.declared.progress.DonePhase.{DonePhase}
use Rattle.domain_spec.specs.declared.progress.Progress.{Progress}
use Rattle.domain_spec.specs.declared.step.Outcome.{Outcome}
use Rattle.domain_spec.specs.declared.step.Outcome.TheVariants as outcome
use Rattle.domain_spec.specs.declared.step.PhaseStep.{PhaseStep}
use Rattle.domain_spec.specs.Exit.{exit_state, exit_transitions}
use Rattle.domain_spec.specs.Fold.{lost_boot, with_outcome}
use Rattle.domain_spec.specs.Phase.{phase_asked, phase_of, phase_still_asked}

-- why the boot ended, as the first answer Ended says
abbrev pub ended_by : List Answer → Option EndReason
ended_by [] = None
ended_by (answer.Ended why ∷ answers) = Some why
ended_by (other ∷ answers) = ended_by answers

-- the boot's end that follows a phase: its monitor was lost, and it is live still
abbrev pub lost_by : State → Option ℕ → List Answer → Option EndReason
lost_by s boot answers = option_map (λ lost. reason.Lost) (lost_boot s boot answers)

-- the state where the live boot has ended so, if it has
abbrev pub after_end : State → Option EndReason → State
after_end s None = s
after_end s (Some why) = exit_state s why

-- what listeners are told of a boot's end, if there is one
abbrev pub end_told : Option EndReason → List Transition
end_told None = []
end_told (Some why) = exit_transitions why

-- what the due phase leaves; where an answer is Ended, the boot's end comes first
abbrev pub due_step : Progress → PhaseStep
due_step at = phase_of (after_end at.state (ended_by at.left)) at.operation at.left

-- the phase as it was done, with the transitions of its boot's end
abbrev pub done_phase : Progress → Phase → PhaseStep → Option EndReason → DonePhase
done_phase at p step lost = record {
  phase = p;
  asks = phase_asked at.state at.operation at.left;
  answers = at.left;
  outcome = step.outcome;
  transitions = end_told (ended_by at.left) ++ step.transitions ++ end_told lost;
}

-- the due phase is done with the answers that are there; where one is Lost, the boot's end follows
abbrev pub with_phase : Progress → Phase → PhaseStep → Progress
with_phase at p step =
    let lost = lost_by step.state at.operation.boot at.left in
    record {
      phases = at.phases ++ done_phase at p step lost ∷ [];
      state = after_end step.state lost;
      operation = with_outcome step.outcome at.operation;
      left = [];
    }

-- no ask is left to the due phase
abbrev pub is_through : Progress → Bool
is_through at = length (phase_still_asked at.state at.operation at.left) == 0

-- the due phase is done, where one is due and no ask is left to it
abbrev pub stepped_by : Progress → Outcome → Progress
stepped_by at (outcome.Over r) = at
stepped_by at (outcome.Rest r) = at
stepped_by at (outcome.On p) = if is_through at then with_phase at p (due_step at) else at

-- the due phase is done, if it is through
abbrev pub stepped : Progress → Progress
stepped at = stepped_by at at.operation.outcome

-- and so is the next one, if it asks nothing: a poll that gives up. The cancel after that one asks.
abbrev pub advanced : Progress → Progress
advanced at = stepped (stepped at)

-- the operation gets one more answer
abbrev pub with_answer : Progress → Answer → Progress
with_answer at a = advanced (record at { left = at.left ++ a ∷ [] })

-- the operation gets these answers, one after the other
abbrev pub with_answers : Progress → List Answer → Progress
with_answers at [] = at
with_answers at (a ∷ answers) = with_answers (with_answer at a) answers

-- how far an operation comes that is open in this state, where these answers come
abbrev pub whole_operation : State → OpenOperation → List Answer → Progress
whole_operation s o answers = with_answers (advanced (record { phases = []; state = s; operation = o; left = [] })) answers

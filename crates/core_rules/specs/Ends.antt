-- What a phase leaves that was refused, in the state where its operation is.
use Rattle.std.specs.Prelude.{List, [], ◌∷◌, Bool, false, is_some, Option, None, Some, if◌then◌else◌}
use Rattle.domain_spec.specs.Types.{Answer, Call, Domain, Op, Refusal, State}
use Rattle.domain_spec.specs.Types.reason
use Rattle.domain_spec.specs.Types.reply
use Rattle.domain_spec.specs.Types.state
use Rattle.domain_spec.specs.Types.told
use Rattle.domain_spec.specs.declared.step.PhaseStep.{PhaseStep}
use Rattle.domain_spec.specs.Asks.{is_undone}
use Rattle.domain_spec.specs.CopyResult.{cancels, over}
use Rattle.domain_spec.specs.Exit.{exit_state}
use Rattle.domain_spec.specs.Migration.{rests}
use Rattle.domain_spec.specs.Phase.{phase_done, phase_refused}
use Rattle.domain_spec.specs.Refusals.{failure_of, monitor_lost, no_domain}

-- the domain has an operation
abbrev pub has_operation : State → Bool
has_operation (state.Vacant boots) = false
has_operation (state.Held d) = is_some d.op

-- the due phase was refused so; without an operation the call alone is
abbrev pub refused_on : Domain → Option Op → Refusal → PhaseStep
refused_on d None r = over (state.Held d) [] (reply.No r)
refused_on d (Some op) r = phase_refused d d.live op r

-- the due phase of this state was refused so
unfoldable pub refused_in : State → Refusal → PhaseStep
refused_in (state.Vacant boots) r = over (state.Vacant boots) [] (reply.No r)
refused_in (state.Held d) r = refused_on d d.op r

-- the due phase, where each answer is Ok; without an operation there is no domain for it
abbrev pub done_on : Domain → Option Op → Call → List Answer → PhaseStep
done_on d None c answers = over (state.Held d) [] (reply.No no_domain)
done_on d (Some op) c answers = phase_done d d.live op c answers

-- the due phase of this state, where each answer is Ok
abbrev pub done_in : State → Call → List Answer → PhaseStep
done_in (state.Vacant boots) c answers = over (state.Vacant boots) [] (reply.No no_domain)
done_in (state.Held d) c answers = done_on d d.op c answers

-- an ask of the due phase was answered so, and that is not Ok; after Lost nothing changes but that
-- the boot's end is marked
unfoldable pub failed_in : State → Answer → PhaseStep
failed_in s bad = if is_undone bad then refused_in s (failure_of bad) else over s [] (reply.No monitor_lost)

-- the operation gives up, and keeps why; without an operation the call alone is refused
abbrev pub gives_up_on : Domain → Option Op → Refusal → PhaseStep
gives_up_on d None r = over (state.Held d) [] (reply.No r)
gives_up_on d (Some op) r = cancels d op r

-- the operation of this state gives up, and keeps why
unfoldable pub gives_up_in : State → Refusal → PhaseStep
gives_up_in (state.Vacant boots) r = over (state.Vacant boots) [] (reply.No r)
gives_up_in (state.Held d) r = gives_up_on d d.op r

-- the operation rests, and its caller is refused
abbrev pub rests_on : Domain → Option Op → Refusal → PhaseStep
rests_on d None r = over (state.Held d) [] (reply.No r)
rests_on d (Some op) r = rests d op [] (reply.No r)

-- the operation of this state rests, and its caller is refused
unfoldable pub rests_in : State → Refusal → PhaseStep
rests_in (state.Vacant boots) r = over (state.Vacant boots) [] (reply.No r)
rests_in (state.Held d) r = rests_on d d.op r

-- a new boot that could not be started is gone
abbrev pub start_failed_in : State → Refusal → PhaseStep
start_failed_in s r = over (exit_state s reason.Failed) (told.STOPPED_FAILED ∷ []) (reply.No r)

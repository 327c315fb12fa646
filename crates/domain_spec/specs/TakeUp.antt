-- How a call takes up an operation that rests.
use Rattle.std.specs.Prelude.{ℕ, List, ◌&&◌, not, Bool, true, false, Option, None, Some, if◌then◌else◌}
use Rattle.domain_spec.specs.Types.{Answer, Call, OpKind, State}
use Rattle.domain_spec.specs.Types.state
use Rattle.domain_spec.specs.declared.mark.HeldOperation.{HeldOperation}
use Rattle.domain_spec.specs.declared.standing.Standing.{Standing}
use Rattle.domain_spec.specs.declared.step.CallStep.{CallStep}
use Rattle.domain_spec.specs.Call.{takes_up}
use Rattle.domain_spec.specs.CallResult.{refused}
use Rattle.domain_spec.specs.Migrating.{is_same_kind}
use Rattle.domain_spec.specs.Open.{operation_held}
use Rattle.domain_spec.specs.Refusals.{invalid}
use Rattle.domain_spec.specs.Sequential.{meets_ended, seq}

-- an operation of this kind rests
abbrev pub rests_for : Option OpKind → Option HeldOperation → Bool
rests_for (Some k) (Some op) = op.rests && is_same_kind op.kind k
rests_for wanted op = false

-- an operation of another kind rests
abbrev pub rests_for_another : Option OpKind → Option HeldOperation → Bool
rests_for_another (Some k) (Some op) = op.rests && not (is_same_kind op.kind k)
rests_for_another wanted op = false

-- the call takes up the operation that rests
abbrev pub takes_it_up : Standing → Call → Option ℕ → Bool
takes_it_up s c boot = not (meets_ended s.state c boot) && rests_for (takes_up c) (operation_held s.operation)

-- the cell has no domain
abbrev pub is_vacant : State → Bool
is_vacant (state.Vacant boots) = true
is_vacant (state.Held d) = false

-- a vacant cell in which an operation rests answers 55 to a call that takes up another
abbrev pub meets_another : Standing → Call → Bool
meets_another s c = is_vacant s.state && rests_for_another (takes_up c) (operation_held s.operation)

-- what a call leaves here that carries this boot, where these answers came
abbrev pub step_at : Standing → Call → Option ℕ → List Answer → CallStep
step_at s c boot answers = if meets_another s c then refused s.state (invalid None) else seq s.state c boot answers

-- A whole call at one place of a history, with all its answers given at once: the state, the reply
-- and the transitions that it leaves, the asks that it makes, and when it is through.
use Rattle.std.specs.Prelude.{ℕ, List, [], Bool, not, ◌&&◌, is_none, is_some, Option, None, Some, if◌then◌else◌}
use Rattle.domain_spec.specs.Types.{Answer, Ask, Call, Refusal, State}
use Rattle.domain_spec.specs.Types.call
use Rattle.domain_spec.specs.declared.step.CallStep.{CallStep}
use Rattle.domain_spec.specs.Asks.{asks_left, asks_made, first_bad}
use Rattle.domain_spec.specs.Call.{begins, is_on_stored, plan_of}
use Rattle.domain_spec.specs.Reading.{carries_ended}
use Rattle.domain_spec.specs.Refusals.{failure_of, guest_ended}
use Rattle.domain_spec.specs.Tests.{refusal_of}
use Rattle.domain_spec.specs.CallResult.{refused, done, step_of}

-- after the first answer that is not Ok the state is as before
abbrev pub answered_step : State → Call → List Answer → Option Answer → CallStep
answered_step s c answers None = step_of s c answers
answered_step s c answers (Some bad) = refused s (failure_of bad)

-- a call by its tests: the refusal of one that fails, else what the answers give
abbrev pub tested_step : State → Call → List Answer → Option Refusal → CallStep
tested_step s c answers None = answered_step s c answers (first_bad answers)
tested_step s c answers (Some r) = refused s r

-- the boot that the call carries is not live: a Destroy has what it wanted
abbrev pub ended_step : State → Call → Option ℕ → CallStep
ended_step s call.Destroy boot = done s []
ended_step s c None = done s []
ended_step s c (Some boot) = refused s (guest_ended boot)

-- the call carries a boot that is not live, and is no call on the stored definition
abbrev pub meets_ended : State → Call → Option ℕ → Bool
meets_ended s c boot = not (is_on_stored c) && carries_ended s boot

-- what a call leaves that carries this boot, where these answers came
abbrev pub seq : State → Call → Option ℕ → List Answer → CallStep
seq s c boot answers = if meets_ended s c boot then ended_step s c boot else tested_step s c answers (refusal_of s boot c)

-- no ask where a test fails or the boot has ended
abbrev pub makes_asks : State → Call → Option ℕ → Bool
makes_asks s c boot = not (meets_ended s c boot) && is_none (refusal_of s boot c)

-- the asks that the call makes where these answers come, one an answer
abbrev pub asked : State → Call → Option ℕ → List Answer → List Ask
asked s c boot answers = if makes_asks s c boot then asks_made (plan_of s c) answers else []

-- the asks that are left after these answers
abbrev pub still_asked : State → Call → Option ℕ → List Answer → List Ask
still_asked s c boot answers = if makes_asks s c boot then asks_left (plan_of s c) answers else []

-- a call that begins an operation is done only where it is refused; else its Start follows
abbrev pub goes_on_as_operation : State → Call → Option ℕ → Bool
goes_on_as_operation s c boot = is_some (begins c) && makes_asks s c boot

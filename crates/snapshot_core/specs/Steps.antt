-- What a call on snapshots leaves by its tests and then by its answers, and what the phases leave.
use Rattle.std.specs.Prelude.{ℕ, List, [], Option, None, Some}
use Rattle.domain_spec.specs.Types.{Answer, Call, Domain, Live, Op, SnapInfo, State}
use Rattle.domain_spec.specs.Types.reply
use Rattle.domain_spec.specs.Types.value
use Rattle.domain_spec.specs.Types.state
use Rattle.domain_spec.specs.declared.step.CallStep.{CallStep}
use Rattle.domain_spec.specs.declared.step.PhaseStep.{PhaseStep}
use Rattle.domain_spec.specs.Asks.{first_value}
use Rattle.domain_spec.specs.CopyResult.{over}
use Rattle.domain_spec.specs.Operation.{live_taken}
use Rattle.domain_spec.specs.Phase.{inactive_taken, reverted}
use Rattle.domain_spec.specs.Sequential.{tested_step}
use Rattle.domain_spec.specs.Tests.{refusal_of}

-- in a domain, for a call that carries this boot
abbrev pub held_seq : Domain → Call → Option ℕ → List Answer → CallStep
held_seq d c boot answers = tested_step (state.Held d) c answers (refusal_of (state.Held d) boot c)

-- in whatever state
abbrev pub tested_seq : State → Call → Option ℕ → List Answer → CallStep
tested_seq s c boot answers = tested_step s c answers (refusal_of s boot c)

-- the phase that asks nothing: without a guest a snapshot becomes the current one
abbrev pub nothing_done : Domain → Option Live → Call → PhaseStep
nothing_done d None c = reverted d c
nothing_done d (Some l) c = over (state.Held d) [] (reply.Ok value.Nothing)

-- the phase that takes a snapshot, with or without a guest
abbrev pub take_done : Domain → Option Live → Op → SnapInfo → List Answer → PhaseStep
take_done d None op info answers = inactive_taken d info d.stored
take_done d (Some l) op info answers = live_taken d l op info (first_value answers)

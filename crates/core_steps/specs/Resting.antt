-- What the caller of an operation is told that rests.
use Rattle.std.specs.Prelude.{Option, None, Some}
use Rattle.domain_spec.specs.Types.{Reply}
use Rattle.domain_spec.specs.Types.reply
use Rattle.domain_spec.specs.Types.value
use Rattle.domain_spec.specs.declared.open.OpenOperation.{OpenOperation}
use Rattle.domain_spec.specs.declared.step.Outcome.{Outcome}
use Rattle.domain_spec.specs.declared.step.Outcome.TheVariants as outcome

-- the reply of a phase that led to rest
abbrev pub rested_of : Outcome → Reply
rested_of (outcome.Rest r) = r
rested_of other = reply.Ok value.Nothing

-- the same of the operation that is open
abbrev pub rested_in : Option OpenOperation → Reply
rested_in None = reply.Ok value.Nothing
rested_in (Some o) = rested_of o.outcome

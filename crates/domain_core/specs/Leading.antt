-- What a phase leads its operation to, as its caller is told.
use Rattle.std.specs.Prelude.{Option}
use Rattle.domain_spec.specs.declared.open.OpenOperation.{OpenOperation}
use Rattle.domain_spec.specs.declared.step.Outcome.{Outcome}
use Rattle.domain_spec.specs.declared.step.Outcome.TheVariants as outcome
use Rattle.domain_core.specs.declared.next.Next.{Next}
use Rattle.domain_core.specs.declared.next.Next.TheVariants as next
use Rattle.core_steps.specs.OfLedger.{IsToldAtEnd, Step}
use Rattle.core_steps.specs.OfLedger.step_variants as step
use Rattle.core_steps.specs.Resting.{rested_in}

-- an outcome is told so: where the operation rests, its reply, or that there was no memory for one more copy
abbrev pub IsTold : Outcome → Next → Type 0
IsTold (outcome.On p) next.On = Unit {0}
IsTold (outcome.Over r) next.Over = Unit {0}
IsTold (outcome.Rest r) (next.Rest said) = IsToldAtEnd r said
IsTold other said = ⊥

-- a step is told so, over the operation as it is
abbrev pub Leads : Option OpenOperation → Step → Next → Type 0
Leads o step.On next.On = Unit {0}
Leads o step.Over next.Over = Unit {0}
Leads o step.Rest (next.Rest said) = IsToldAtEnd (rested_in o) said
Leads o other said = ⊥

-- what the phase led to, whatever its caller is told
abbrev pub step_of : Next → Step
step_of next.On = step.On
step_of next.Over = step.Over
step_of (next.Rest said) = step.Rest

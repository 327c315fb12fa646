-- The guest's step, as what its first answer gives.
use Rattle.std.proofs.Common.{subst}
use Rattle.domain_spec.specs.Types.state
use Rattle.domain_spec.specs.Asks.{first_value}
use Rattle.domain_spec.specs.declared.step.CallStep.{CallStep}
use Rattle.lifecycle_core.specs.Leaves.{Leaves}
use Rattle.lifecycle_core.proofs.GuestMemory.{memory_at}
use Rattle.lifecycle_core.proofs.guest_steps.tell_memory.Goals as goal

pub returns-in-Some : goal.returns-in-Some
returns-in-Some c =
    subst (λ (step : CallStep). Leaves (state.Held c.in-Held.domain) c.args.into.now.list c.args.into.now.list c.memory_told.result step)
    (memory_at c.args.state.now c.in-Held.domain _ c.args.answers.now c.in-Held.is c.in-Some.is)
    (c.memory_told.ensures (state.Held c.in-Held.domain) c.args.into.now.list (first_value c.args.answers.now) c.first_value.ensures)

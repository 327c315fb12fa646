-- There is a number for the boot that an operation makes.
use Rattle.std.specs.Prelude.{ℕ, ◌<◌, ◌^◌, Option, None, Some}
use Rattle.domain_spec.specs.Types.{Call, DomainDef, State}
use Rattle.domain_spec.specs.Types.call
use Rattle.domain_spec.specs.Types.state
use Rattle.domain_spec.specs.Begin.{boot_definition}

-- where a boot is made, one more can be numbered
abbrev pub NumbersBoot : ℕ → Option DomainDef → Type 0
NumbersBoot boots None = Unit {0}
NumbersBoot boots (Some def) = boots < 2 ^ 62

-- the operation of this call makes no boot, or one more can be numbered
abbrev pub HasNumber : State → Call → Type 0
HasNumber (state.Held d) c = NumbersBoot d.boots (boot_definition d c)
HasNumber (state.Vacant boots) (call.Create def) = boots < 2 ^ 62
HasNumber (state.Vacant boots) (call.Restore def running saved) = boots < 2 ^ 62
HasNumber (state.Vacant boots) (call.Prepare def running saved) = boots < 2 ^ 62
HasNumber (state.Vacant boots) other = Unit {0}

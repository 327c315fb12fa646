-- What was made for a call fits it whatever happens while it waits for an answer.
use Rattle.std.specs.Prelude.{ℕ, Option}
use Rattle.domain_spec.specs.Types.{Call, EndReason, State}
use Rattle.domain_spec.specs.Exit.{exit_state}
use Rattle.domain_spec.specs.Phase.{without_operation}
use Rattle.core_dispatch.specs.Fits.{FitsCall}
use Rattle.core_dispatch.specs.declared.calls.CallParts.{CallParts}

-- it fits after the end of a boot too
abbrev pub OutlastsBoots : Type 0
OutlastsBoots =
    (p : CallParts) (s : State) (c : Call) (boot : Option ℕ) (why : EndReason) → FitsCall p s c boot → FitsCall p (exit_state s why) c boot

-- and after the end of an operation
abbrev pub OutlastsOperations : Type 0
OutlastsOperations = (p : CallParts) (s : State) (c : Call) (boot : Option ℕ) → FitsCall p s c boot → FitsCall p (without_operation s) c boot

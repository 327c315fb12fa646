-- When what a part of the driver made for a call, or for a phase, fits a state.
use Rattle.std.specs.Prelude.{◌≡◌, ℕ, false, Option}
use Rattle.domain_spec.specs.Types.{Call, State}
use Rattle.domain_spec.specs.declared.open.OpenOperation.{OpenOperation}
use Rattle.domain_spec.specs.Reading.{carries_ended}
use Rattle.core_rules.specs.Cores.{Serves, core_of_call}
use Rattle.core_rules.specs.declared.cores.Core.TheVariants as core
use Rattle.hotplug_core.specs.Fitting as hotplug
use Rattle.lifecycle_core.specs.Parts as lifecycle
use Rattle.save_core.specs.PhaseFits as save
use Rattle.snapshot_core.specs.Fits as snapshot
use Rattle.core_dispatch.specs.declared.calls.CallParts.{CallParts}
use Rattle.core_dispatch.specs.declared.calls.CallParts.TheVariants as parts
use Rattle.core_dispatch.specs.declared.phases.PhaseParts.{PhaseParts}
use Rattle.core_dispatch.specs.declared.phases.PhaseParts.TheVariants as phase_parts

-- the part made this that serves the call, and it fits; it does so too where the call's boot has ended
abbrev pub FitsCall : CallParts → State → Call → Option ℕ → Type 0
FitsCall (parts.Lifecycle p) s c boot = (core_of_call c ≡ core.Lifecycle) × lifecycle.Fits p s c
FitsCall (parts.Hotplug p) s c boot = (core_of_call c ≡ core.Hotplug) × hotplug.Fits p s c
FitsCall (parts.Save p) s c boot = core_of_call c ≡ core.Save
FitsCall (parts.Snapshot p) s c boot = (core_of_call c ≡ core.Snapshot) × snapshot.IsFor p s c

-- the part made this that serves the due phase, and it fits; where the operation's boot has ended any does
abbrev pub FitsPhase : PhaseParts → State → OpenOperation → Type 0
FitsPhase (phase_parts.Lifecycle p) s o = Serves core.Lifecycle s o × lifecycle.FitsPhase p s o
FitsPhase (phase_parts.Save p) s o = Serves core.Save s o × save.Fits p s o
FitsPhase (phase_parts.Snapshot p) s o = Serves core.Snapshot s o × (carries_ended s o.boot ≡ false → snapshot.IsForPhase p s o.call)

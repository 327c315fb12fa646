-- No phase of an operation is served by the part that adds and removes devices.
use Rattle.std.proofs.Common.{◌≡◌, Bool, true, false, if◌then◌else◌, Option, None, Some}
use Rattle.domain_spec.specs.Types.{Call, Op, Phase, State}
use Rattle.domain_spec.specs.Types.phase
use Rattle.domain_spec.specs.Types.state
use Rattle.core_rules.specs.Cores.{core_due, core_of_phase, core_on, is_snapshot}
use Rattle.core_rules.specs.declared.cores.Core.TheVariants as core

by_kind : (b : Bool) → (if b then core.Snapshot else core.Save) ≡ core.Hotplug → ⊥
by_kind true e = cc
by_kind false e = cc

no_phase : (p : Phase) (c : Call) → core_of_phase p c ≡ core.Hotplug → ⊥
no_phase phase.Make c e = cc
no_phase phase.Run c e = cc
no_phase phase.Take c e = by_kind (is_snapshot c) e
no_phase phase.Nothing c e = cc
no_phase other c e = cc

no_operation : (op : Option Op) (c : Call) → core_on op c ≡ core.Hotplug → ⊥
no_operation None c e = cc
no_operation (Some op) c e = no_phase op.phase c e

pub no_device : (s : State) (c : Call) → core_due s c ≡ core.Hotplug → ⊥
no_device (state.Vacant boots) c e = cc
no_device (state.Held d) c e = no_operation d.op c e

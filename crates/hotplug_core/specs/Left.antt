-- What a call leaves that adds a device or removes one.
use Rattle.std.specs.Prelude.{◌≡◌, [], Option, None, Some}
use Rattle.domain_spec.specs.Types.{DeviceDef, Domain, Live, State}
use Rattle.domain_spec.specs.Types.state
use Rattle.domain_spec.specs.declared.step.CallStep.{CallStep}
use Rattle.domain_spec.specs.CallResult.{attached, detached, with_live}
use Rattle.domain_spec.specs.Devices.{device_like, free_slot}
use Rattle.core_rules.specs.declared.ends.CallEnd.{CallEnd}
use Rattle.core_rules.specs.Led.{Says}

-- the state and the reply are those of this step, of which nobody else is told
pub record Leaves (step : CallStep) (new : State) (end : CallEnd) : Type 0 where
  pub state : new ≡ step.state
  pub said : Says end step.reply
  pub quiet : step.transitions ≡ []

-- the domain whose guest, if there is one, has one more device
abbrev pub attached_to : Domain → Option Live → DeviceDef → State
attached_to d None new = state.Held d
attached_to d (Some l) new = with_live d (attached l (free_slot l.slots) new)

-- the state with the device attached, where there is a guest
abbrev pub attached_in : State → DeviceDef → State
attached_in (state.Vacant boots) new = state.Vacant boots
attached_in (state.Held d) new = attached_to d d.live new

-- the domain whose guest, if there is one, has lost the device with this one's key
abbrev pub detached_from : Domain → Option Live → DeviceDef → State
detached_from d None old = state.Held d
detached_from d (Some l) old = with_live d (detached l (device_like l old))

-- the state with the device detached, where there is a guest
abbrev pub detached_in : State → DeviceDef → State
detached_in (state.Vacant boots) old = state.Vacant boots
detached_in (state.Held d) old = detached_from d d.live old

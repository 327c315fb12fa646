-- Why a call that adds or removes a device is refused before its first ask.
use Rattle.std.specs.Prelude.{ℕ, Option, None, Some, if◌then◌else◌}
use Rattle.domain_spec.specs.Types.{Call, DeviceDef, Refusal, State}
use Rattle.domain_spec.specs.Devices.{key_of}
use Rattle.domain_spec.specs.Reading.{carries_ended}
use Rattle.domain_spec.specs.Refusals.{guest_ended, no_device}
use Rattle.domain_spec.specs.Tests.{refusal_of}
use Rattle.core_rules.specs.Reasons.{refusal_for}
use Rattle.hotplug_core.specs.declared.faults.Fault.{Fault}
use Rattle.hotplug_core.specs.declared.faults.Fault.TheVariants as fault

-- the boot of this number has ended
abbrev pub boot_ended : Option ℕ → Option Refusal
boot_ended None = None
boot_ended (Some boot) = Some (guest_ended boot)

-- the boot that the call carries has ended, or one of its tests fails
unfoldable pub refused_before : State → Call → Option ℕ → Option Refusal
refused_before s c boot = if carries_ended s boot then boot_ended boot else refusal_of s boot c

-- the refusal of a call on this device for this fault
abbrev pub fault_refusal : DeviceDef → Fault → Refusal
fault_refusal d (fault.For reason) = refusal_for reason
fault_refusal d fault.NoDevice = no_device (key_of d)

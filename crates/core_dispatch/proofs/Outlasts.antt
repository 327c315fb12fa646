-- Why what was made for a call still fits it after the end of a boot, or of an operation.
use Rattle.std.proofs.Common.{◌≡◌, ℕ, Option, None, Some}
use Rattle.domain_spec.specs.Types.{Call, DeviceDef, Domain, DomainDef, EndReason, Live, State}
use Rattle.domain_spec.specs.Types.call
use Rattle.domain_spec.specs.Types.state
use Rattle.domain_spec.specs.CallResult.{ended}
use Rattle.domain_spec.specs.Exit.{exit_held, exit_state}
use Rattle.domain_spec.specs.Reading.{unless_gone_by}
use Rattle.hotplug_core.specs.declared.set_aside.Parts.{Parts}
use Rattle.hotplug_core.specs.declared.set_aside.Parts.TheVariants as device_parts
use Rattle.hotplug_core.specs.Fitting as hotplug
use Rattle.lifecycle_core.specs.declared.memory.CallParts as lifecycle_parts
use Rattle.lifecycle_core.specs.declared.memory.Names.{Names}
use Rattle.lifecycle_core.specs.Parts as lifecycle
use Rattle.snapshot_core.specs.declared.made.Parts as snapshot_parts
use Rattle.snapshot_core.specs.declared.deletion.Deletion.{Deletion}
use Rattle.snapshot_core.specs.Fits as snapshot
use Rattle.core_dispatch.specs.Fits.{FitsCall}
use Rattle.core_dispatch.specs.Outlasting.{OutlastsBoots, OutlastsOperations}
use Rattle.core_dispatch.specs.declared.calls.CallParts.{CallParts}
use Rattle.core_dispatch.specs.declared.calls.CallParts.TheVariants as parts

-- where the cell is vacant then

held_vacant : (names : Option Names) (n : ℕ) → lifecycle.AreHeld names (state.Vacant n)
held_vacant None n = tt
held_vacant (Some names) n = tt

life_vacant : (p : lifecycle_parts.CallParts) (s : State) (n : ℕ) (c : Call) → lifecycle.Fits p s c → lifecycle.Fits p (state.Vacant n) c
life_vacant p s n (call.Define def) h = record { new = h.new; held = held_vacant p.held n }
life_vacant p s n other h = tt

attach_vacant : (p : Parts) (s : State) (n : ℕ) (d : DeviceDef) → hotplug.FitsAttaching p s d → hotplug.FitsAttaching p (state.Vacant n) d
attach_vacant (device_parts.Attach new texts) s n d h = record { device = h.device; room = tt }
attach_vacant (device_parts.Detach mac texts) s n d h = h

device_vacant : (p : Parts) (s : State) (n : ℕ) (c : Call) → hotplug.Fits p s c → hotplug.Fits p (state.Vacant n) c
device_vacant p s n (call.Attach d) h = attach_vacant p s n d h
device_vacant p s n (call.Detach d) h = h
device_vacant p s n other h = tt

snap_vacant : (deletion : Option Deletion) (n : ℕ) (c : Call) → snapshot.FitsCall deletion (state.Vacant n) c
snap_vacant None n c = tt
snap_vacant (Some deletion) n c = tt

vacant_fits : (p : CallParts) (s : State) (n : ℕ) (c : Call) (boot : Option ℕ) → FitsCall p s c boot → FitsCall p (state.Vacant n) c boot
vacant_fits (parts.Lifecycle p) s n c boot h = (h.0, life_vacant p s n c h.1)
vacant_fits (parts.Hotplug p) s n c boot h = (h.0, device_vacant p s n c h.1)
vacant_fits (parts.Save p) s n c boot h = h
vacant_fits (parts.Snapshot p) s n c boot h = (h.0, snap_vacant p.deletion n c)

-- where the domain stays, without a guest

held_gone : (names : Option Names) (d : Domain) (last : Option (ℕ × EndReason)) → lifecycle.AreHeld names (state.Held d) → lifecycle.AreHeld names (state.Held (record d { live = None; last = last }))
held_gone None d last h = h
held_gone (Some names) d last h = h

life_gone : (p : lifecycle_parts.CallParts) (d : Domain) (last : Option (ℕ × EndReason)) (c : Call) → lifecycle.Fits p (state.Held d) c → lifecycle.Fits p (state.Held (record d { live = None; last = last })) c
life_gone p d last (call.Define def) h = record { new = h.new; held = held_gone p.held d last h.held }
life_gone p d last other h = tt

attach_gone : (p : Parts) (d : Domain) (last : Option (ℕ × EndReason)) (new : DeviceDef) → hotplug.FitsAttaching p (state.Held d) new → hotplug.FitsAttaching p (state.Held (record d { live = None; last = last })) new
attach_gone (device_parts.Attach new texts) d last device h = record { device = h.device; room = tt }
attach_gone (device_parts.Detach mac texts) d last device h = h

device_gone : (p : Parts) (d : Domain) (last : Option (ℕ × EndReason)) (c : Call) → hotplug.Fits p (state.Held d) c → hotplug.Fits p (state.Held (record d { live = None; last = last })) c
device_gone p d last (call.Attach new) h = attach_gone p d last new h
device_gone p d last (call.Detach old) h = h
device_gone p d last other h = tt

snap_gone : (deletion : Option Deletion) (d : Domain) (last : Option (ℕ × EndReason)) (c : Call) → snapshot.FitsCall deletion (state.Held d) c → snapshot.FitsCall deletion (state.Held (record d { live = None; last = last })) c
snap_gone (Some deletion) d last (call.SnapDelete name children) h = h
snap_gone None d last (call.SnapDelete name children) h = h
snap_gone (Some deletion) d last other h = tt
snap_gone None d last other h = tt

gone_fits : (p : CallParts) (d : Domain) (last : Option (ℕ × EndReason)) (c : Call) (boot : Option ℕ) → FitsCall p (state.Held d) c boot → FitsCall p (state.Held (record d { live = None; last = last })) c boot
gone_fits (parts.Lifecycle p) d last c boot h = (h.0, life_gone p d last c h.1)
gone_fits (parts.Hotplug p) d last c boot h = (h.0, device_gone p d last c h.1)
gone_fits (parts.Save p) d last c boot h = h
gone_fits (parts.Snapshot p) d last c boot h = (h.0, snap_gone p.deletion d last c h.1)

by_stored : (p : CallParts) (d : Domain) (last : Option (ℕ × EndReason)) (stored : Option DomainDef) (c : Call) (boot : Option ℕ) → FitsCall p (state.Held d) c boot
    → FitsCall p (unless_gone_by (record d { live = None; last = last }) None stored) c boot
by_stored p d last None c boot h = vacant_fits p (state.Held d) d.boots c boot h
by_stored p d last (Some def) c boot h = gone_fits p d last c boot h

by_live : (p : CallParts) (d : Domain) (live : Option Live) (c : Call) (boot : Option ℕ) (why : EndReason) → FitsCall p (state.Held d) c boot → FitsCall p (exit_held d live why) c boot
by_live p d None c boot why h = h
by_live p d (Some l) c boot why h = by_stored p d (Some (l.boot, why)) d.stored c boot h

pub outlasts_boots : OutlastsBoots
outlasts_boots p (state.Vacant boots) c boot why h = h
outlasts_boots p (state.Held d) c boot why h = by_live p d d.live c boot why h

-- after the end of an operation

held_still : (names : Option Names) (d : Domain) → lifecycle.AreHeld names (state.Held d) → lifecycle.AreHeld names (state.Held (record d { op = None }))
held_still None d h = h
held_still (Some names) d h = h

life_still : (p : lifecycle_parts.CallParts) (d : Domain) (c : Call) → lifecycle.Fits p (state.Held d) c → lifecycle.Fits p (state.Held (record d { op = None })) c
life_still p d (call.Define def) h = record { new = h.new; held = held_still p.held d h.held }
life_still p d other h = tt

attach_still : (p : Parts) (d : Domain) (new : DeviceDef) → hotplug.FitsAttaching p (state.Held d) new → hotplug.FitsAttaching p (state.Held (record d { op = None })) new
attach_still (device_parts.Attach new texts) d device h = h
attach_still (device_parts.Detach mac texts) d device h = h

device_still : (p : Parts) (d : Domain) (c : Call) → hotplug.Fits p (state.Held d) c → hotplug.Fits p (state.Held (record d { op = None })) c
device_still p d (call.Attach new) h = attach_still p d new h
device_still p d (call.Detach old) h = h
device_still p d other h = tt

snap_still : (deletion : Option Deletion) (d : Domain) (c : Call) → snapshot.FitsCall deletion (state.Held d) c → snapshot.FitsCall deletion (state.Held (record d { op = None })) c
snap_still (Some deletion) d (call.SnapDelete name children) h = h
snap_still None d (call.SnapDelete name children) h = h
snap_still (Some deletion) d other h = tt
snap_still None d other h = tt

pub outlasts_operations : OutlastsOperations
outlasts_operations p (state.Vacant boots) c boot h = h
outlasts_operations (parts.Lifecycle p) (state.Held d) c boot h = (h.0, life_still p d c h.1)
outlasts_operations (parts.Hotplug p) (state.Held d) c boot h = (h.0, device_still p d c h.1)
outlasts_operations (parts.Save p) (state.Held d) c boot h = h
outlasts_operations (parts.Snapshot p) (state.Held d) c boot h = (h.0, snap_still p.deletion d c h.1)

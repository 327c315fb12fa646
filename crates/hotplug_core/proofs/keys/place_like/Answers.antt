-- Disks come first, and no disk has the key of an interface.
use Rattle.hotplug_core.proofs.Places.{disk_is_at, interface_is_at}
use Rattle.hotplug_core.proofs.keys.place_like.Goals as goal

pub returns-in-Disk : goal.returns-in-Disk
returns-in-Disk c = disk_is_at c.args.wanted.now c.in-Disk.disk c.args.def.now c.as_slice.result.now c.disk_place.result c.in-Disk.is c.as_slice.ensures c.disk_place.ensures

pub returns-in-None : goal.returns-in-None
returns-in-None c = interface_is_at c.args.wanted.now c.in-Interface.interface c.args.def.now c.as_slice-in-Interface.result.now _ c.in-Interface.is c.as_slice-in-Interface.ensures c.in-None.ensures

pub returns-in-Some : goal.returns-in-Some
returns-in-Some c = rw c.as_slice-disks.ensures (interface_is_at c.args.wanted.now c.in-Interface.interface c.args.def.now c.as_slice-in-Interface.result.now _ c.in-Interface.is c.as_slice-in-Interface.ensures c.in-Some.ensures)

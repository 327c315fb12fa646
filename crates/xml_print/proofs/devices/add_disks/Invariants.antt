use Rattle.std.proofs.Common.{◌≡◌, ◌++◌, length}
use Rattle.std.specs.Prelude.{map}
use Rattle.text_spec.specs.DevicePrinted.{disk_tree}
use Rattle.text_spec.specs.Tree.{seen}
use Rattle.xml_print.proofs.devices.add_disks.Given as goal

abbrev pub invariant-loop-disk : goal.invariant-loop-disk
invariant-loop-disk l = map seen l.out.items ++ map disk_tree l.rest ≡ map seen l.initial.out.items ++ map disk_tree l.disks

abbrev pub decreases-loop-disk : goal.decreases-loop-disk
decreases-loop-disk l = length l.rest

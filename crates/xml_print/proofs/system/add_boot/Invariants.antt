use Rattle.std.proofs.Common.{◌≡◌, ◌++◌, length}
use Rattle.std.specs.Prelude.{map}
use Rattle.text_spec.specs.DomainPrinted.{boot_tree}
use Rattle.text_spec.specs.Tree.{seen}
use Rattle.xml_print.proofs.system.add_boot.Given as goal

abbrev pub invariant-loop-device : goal.invariant-loop-device
invariant-loop-device l = map seen l.out.items ++ map boot_tree l.rest ≡ map seen l.initial.out.items ++ map boot_tree l.devices

abbrev pub decreases-loop-device : goal.decreases-loop-device
decreases-loop-device l = length l.rest

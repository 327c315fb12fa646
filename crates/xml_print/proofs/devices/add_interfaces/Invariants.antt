use Rattle.std.proofs.Common.{◌≡◌, ◌++◌, length}
use Rattle.std.specs.Prelude.{map}
use Rattle.text_spec.specs.DevicePrinted.{interface_tree}
use Rattle.text_spec.specs.Tree.{seen}
use Rattle.xml_print.specs.Absent.{interface_as}
use Rattle.xml_print.proofs.devices.add_interfaces.Given as goal

abbrev pub invariant-loop-interface : goal.invariant-loop-interface
invariant-loop-interface l =
    map seen l.out.items ++ map (λ i. interface_tree (interface_as l.absent i)) l.rest
    ≡ map seen l.initial.out.items ++ map (λ i. interface_tree (interface_as l.absent i)) l.interfaces

abbrev pub decreases-loop-interface : goal.decreases-loop-interface
decreases-loop-interface l = length l.rest

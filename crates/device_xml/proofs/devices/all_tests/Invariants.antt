use Rattle.std.proofs.Common.{◌≡◌, ℕ, List, [], length}
use Rattle.std.specs.Prelude.{filter, map}
use Rattle.text_spec.specs.DeviceList.{devices_fault, element_for}
use Rattle.text_spec.specs.Look.{is_element}
use Rattle.text_spec.specs.Tree.{seen}
use Rattle.device_xml.specs.Keys.{Holds}
use Rattle.device_xml.proofs.devices.all_tests.Given as goal

abbrev pub invariant-loop-tree : goal.invariant-loop-tree
invariant-loop-tree l =
    (met : List (List ℕ)) × Holds l.keys met
    × (devices_fault l.kind l.names met (filter (is_element (element_for l.kind)) (map seen l.rest))
    ≡ devices_fault l.kind l.names [] (filter (is_element (element_for l.kind)) (map seen l.fn.trees)))

abbrev pub decreases-loop-tree : goal.decreases-loop-tree
decreases-loop-tree l = length l.rest

use Rattle.std.proofs.Common.{◌≡◌, ◌++◌}
use Rattle.std.specs.Prelude.{map}
use Rattle.std.specs.Vec.Iter.{into_iter_items}
use Rattle.text_spec.specs.Tree.{seen}
use Rattle.xml_print.specs.LiveText.{in_slots}
use Rattle.xml_print.proofs.running_devices.in_slots.Given as goal

-- the devices that came are in their slots, and the others take those that are left
abbrev pub invariant-loop-tree : goal.invariant-loop-tree
invariant-loop-tree l = map seen l.out.items ++ in_slots l.rest (map seen (into_iter_items l.tree-iterator)) ≡ in_slots l.fn.slots (map seen l.fn.devices.items)

use Rattle.std.proofs.Common.{◌≡◌, ◌++◌, length}
use Rattle.std.specs.Prelude.{filter, map}
use Rattle.text_spec.specs.declared.vocabulary.ElementName.TheVariants as element
use Rattle.text_spec.specs.DeviceText.{disk_of}
use Rattle.text_spec.specs.Look.{is_element}
use Rattle.text_spec.specs.Tree.{seen}
use Rattle.domain_xml.proofs.lists.disks_among.Given as goal

abbrev pub invariant-loop-tree : goal.invariant-loop-tree
invariant-loop-tree l =
    l.found.items ++ map disk_of (filter (is_element element.Disk) (map seen l.rest))
    ≡ map disk_of (filter (is_element element.Disk) (map seen l.fn.trees))

abbrev pub decreases-loop-tree : goal.decreases-loop-tree
decreases-loop-tree l = length l.rest

use Rattle.std.proofs.Common.{◌≡◌, ◌++◌, length}
use Rattle.std.specs.Prelude.{filter, map}
use Rattle.text_spec.specs.declared.vocabulary.ElementName.TheVariants as element
use Rattle.text_spec.specs.DeviceText.{interface_of}
use Rattle.text_spec.specs.Look.{is_element}
use Rattle.text_spec.specs.Tree.{seen}
use Rattle.domain_xml.proofs.lists.interfaces_among.Given as goal

abbrev pub invariant-loop-tree : goal.invariant-loop-tree
invariant-loop-tree l =
    l.found.items ++ map interface_of (filter (is_element element.Interface) (map seen l.rest))
    ≡ map interface_of (filter (is_element element.Interface) (map seen l.fn.trees))

abbrev pub decreases-loop-tree : goal.decreases-loop-tree
decreases-loop-tree l = length l.rest

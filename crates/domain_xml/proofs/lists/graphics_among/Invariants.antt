use Rattle.std.proofs.Common.{◌≡◌, ◌++◌, length}
use Rattle.std.specs.Prelude.{filter, map}
use Rattle.text_spec.specs.declared.vocabulary.ElementName.TheVariants as element
use Rattle.text_spec.specs.DomainValue.{graphics_of}
use Rattle.text_spec.specs.Look.{is_element}
use Rattle.text_spec.specs.Tree.{seen}
use Rattle.domain_xml.proofs.lists.graphics_among.Given as goal

abbrev pub invariant-loop-tree : goal.invariant-loop-tree
invariant-loop-tree l =
    l.found.items ++ map graphics_of (filter (is_element element.Graphics) (map seen l.rest))
    ≡ map graphics_of (filter (is_element element.Graphics) (map seen l.fn.trees))

abbrev pub decreases-loop-tree : goal.decreases-loop-tree
decreases-loop-tree l = length l.rest

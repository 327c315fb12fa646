use Rattle.std.proofs.Common.{◌≡◌, ◌++◌, length}
use Rattle.std.specs.Prelude.{map}
use Rattle.text_spec.specs.DomainPrinted.{graphics_tree}
use Rattle.text_spec.specs.Tree.{seen}
use Rattle.xml_print.proofs.devices.add_graphics.Given as goal

abbrev pub invariant-loop-one : goal.invariant-loop-one
invariant-loop-one l = map seen l.out.items ++ map graphics_tree l.rest ≡ map seen l.initial.out.items ++ map graphics_tree l.graphics

abbrev pub decreases-loop-one : goal.decreases-loop-one
decreases-loop-one l = length l.rest

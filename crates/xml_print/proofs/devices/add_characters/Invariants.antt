use Rattle.std.proofs.Common.{◌≡◌, ◌++◌, length}
use Rattle.std.specs.Prelude.{map}
use Rattle.text_spec.specs.DomainPrinted.{character_tree}
use Rattle.text_spec.specs.Tree.{seen}
use Rattle.xml_print.proofs.devices.add_characters.Given as goal

abbrev pub invariant-loop-device : goal.invariant-loop-device
invariant-loop-device l =
    map seen l.out.items ++ map (character_tree l.name) l.rest ≡ map seen l.initial.out.items ++ map (character_tree l.name) l.devices

abbrev pub decreases-loop-device : goal.decreases-loop-device
decreases-loop-device l = length l.rest

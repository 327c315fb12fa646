use Rattle.std.proofs.Common.{◌≡◌, length, rules}
use Rattle.std.specs.Prelude.{map}
use Rattle.text_spec.specs.Tree.{seen}
use Rattle.xml_print.proofs.Interfaces.{none_left}
use Rattle.xml_print.proofs.devices.add_interfaces.Goals as goal

pub returns : goal.returns
returns c =
    let none : length c.loop-interface.rest.now ≡ 0 = search rules in
    none_left c.args.absent (map seen c.args.out.now.items) (map seen c.loop-interface.out.items) c.loop-interface.rest.now c.args.interfaces.now none
    c.loop-interface.invariant

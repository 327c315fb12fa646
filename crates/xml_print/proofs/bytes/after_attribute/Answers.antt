use Rattle.std.proofs.Common.{ap, arith}
use Rattle.std.specs.Prelude.{chars}
use Rattle.std.specs.List.{flat_map}
use Rattle.text_spec.specs.Written.{in_value}
use Rattle.xml_print.specs.Room.{room}
use Rattle.xml_print.proofs.Pieces.{attribute_room}
use Rattle.xml_print.proofs.bytes.after_attribute.Goals as goal

pub returns : goal.returns
returns c =
    let name = ap (λ s. room (chars s)) c.as_str.ensures.value in
    let value = ap (λ s. room (flat_map in_value (chars s))) c.as_str-2.ensures.value in
    omega (arith, name, value, attribute_room c.args.pair.now, c.after_name-named.ensures, c.after_value-valued.ensures, c.saturating_sub.ensures)

use Rattle.std.proofs.Common.{◌<◌, length, arith}
use Rattle.std.specs.List.{flat_map}
use Rattle.std.proofs.lemmas.List.{at_drop_all}
use Rattle.text_spec.specs.Written.{attribute_written}
use Rattle.xml_print.specs.Room.{room}
use Rattle.xml_print.proofs.Pieces.{piece_left}
use Rattle.xml_print.proofs.bytes.after_attributes.Goals as goal

pub loop-pair-preserved : goal.loop-pair-preserved
loop-pair-preserved c =
    let l = c.loop-pair in
    let within : l.pair-index < length c.args.pairs.now = omega arith in
    let e = piece_left attribute_written c.args.pairs.now l.pair-index c.pair-item.result l.rest within c.pair-item.is in
    omega (arith, e, c.after_attribute-rest.ensures, l.invariant)

pub returns : goal.returns
returns c =
    let l = c.loop-pair in
    omega (arith, at_drop_all (λ ps. room (flat_map attribute_written ps)) c.args.pairs.now l.pair-index (omega arith), l.invariant)

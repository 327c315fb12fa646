use Rattle.std.proofs.Common.{◌≡◌, ◌++◌, ◌≤◌, ◌+◌, length, arith}
use Rattle.wire_spec.specs.Packets.{header}
use Rattle.wire_spec.specs.Xdr.{word}
use Rattle.wire_spec.specs.declared.message.TheConstants.{HEADER_LENGTH, MOST_BYTES}
use Rattle.packet.proofs.Written.{is_packet, long_enough, packet_bytes, refused, too_big}
use Rattle.packet.proofs.write.write_packet.Goals as goal

pub framed-requires : goal.framed-requires
framed-requires c = long_enough c.args.header.now c.args.payload.now _ c.in_ok-bytes.ensures.written

pub returns : goal.returns
returns c =
    let h = c.args.header.now in
    let payload = c.args.payload.now in
    let e = c.in_ok-bytes.ensures.written in
    let short : HEADER_LENGTH + length payload ≤ MOST_BYTES = omega (arith, c.if-payload.false) in
    record {
      bytes = packet_bytes h payload _ c.framed.result e c.framed.ensures;
      packet = is_packet h payload _ c.framed.result c.in_ok-bytes.ensures.words c.requires e c.framed.ensures;
      err = refused _ c.framed.result short (too_big h payload _ c.framed.result e c.framed.ensures);
    }

use Rattle.std.proofs.Common.{◌≡◌, ◌++◌, List, ℕ, ap, arith, subst, ◌∙◌}
use Rattle.wire_spec.specs.Packets.{header}
use Rattle.wire_spec.specs.Xdr.{word}
use Rattle.procedure_spec.specs.Results.{reply_header, result}
use Rattle.wire_spec.specs.declared.message.TheConstants.{OK}
use Rattle.packet.specs.Writing.{HasWords}
use Rattle.packet.proofs.Written.{is_packet, long_enough, packet_bytes, too_big}
use Rattle.remote_args.proofs.Holding.{reply_back}
use Rattle.remote_args.proofs.Written.{reply_kind}
use Rattle.remote_args.proofs.reply.write_reply.Goals as goal
use Rattle.remote_args.proofs.reply.write_reply.Goals.{In_ok-put_value}

written : (c : In_ok-put_value) → c.put_value.new.writer ≡ (word 0 ++ header (reply_header c.args.call.now OK)) ++ (result c.args.value.now)
written c = c.in_ok-put_value.ensures.written ∙ ap (λ (t : List ℕ). t ++ (result c.args.value.now)) (c.in_ok-writer.ensures.written ∙ ap (λ h. word 0 ++ header h) c.reply_words.ensures)

pub finish_packet-requires : goal.finish_packet-requires
finish_packet-requires c = long_enough (reply_header c.args.call.now OK) (result c.args.value.now) _ (written (goal.at.finish_packet-requires c).In_ok-put_value)

pub returns : goal.returns
returns c =
    let h = reply_header c.args.call.now OK in
    let v = c.args.value.now in
    let e = written (goal.at.returns c).In_ok-put_value in
    let words = subst HasWords c.reply_words.ensures c.in_ok-writer.ensures.words in
    let packet = is_packet h (result v) _ c.finish_packet.result words (reply_kind c.args.call.now OK (omega arith)) e c.finish_packet.ensures in
    record {
      bytes = packet_bytes h (result v) _ c.finish_packet.result e c.finish_packet.ensures;
      packet = packet;
      err = too_big h (result v) _ c.finish_packet.result e c.finish_packet.ensures;
      reads_back = reply_back h c.args.call.now v c.finish_packet.result c.requires c.in_ok-put_value.ensures.holds packet;
    }

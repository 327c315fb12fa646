use Rattle.std.proofs.Common.{◌≡◌, ◌++◌, List, ℕ, ap, arith, subst, ◌∙◌}
use Rattle.wire_spec.specs.Packets.{header}
use Rattle.wire_spec.specs.Xdr.{word}
use Rattle.procedure_spec.specs.Errors.{refusal_payload}
use Rattle.procedure_spec.specs.Results.{reply_header}
use Rattle.wire_spec.specs.declared.message.TheConstants.{ERROR}
use Rattle.packet.specs.Writing.{HasWords}
use Rattle.packet.proofs.Written.{is_packet, long_enough, packet_bytes, too_big}
use Rattle.remote_args.proofs.Holding.{error_back}
use Rattle.remote_args.proofs.Written.{reply_kind}
use Rattle.remote_args.proofs.reply.write_error.Goals as goal
use Rattle.remote_args.proofs.reply.write_error.Goals.{In_ok-put_refusal}

written : (c : In_ok-put_refusal) → c.put_refusal.new.writer ≡ (word 0 ++ header (reply_header c.args.call.now ERROR)) ++ (refusal_payload c.args.refusal.now)
written c = c.in_ok-put_refusal.ensures.written ∙ ap (λ (t : List ℕ). t ++ (refusal_payload c.args.refusal.now)) (c.in_ok-writer.ensures.written ∙ ap (λ h. word 0 ++ header h) c.reply_words.ensures)

pub finish_packet-requires : goal.finish_packet-requires
finish_packet-requires c = long_enough (reply_header c.args.call.now ERROR) (refusal_payload c.args.refusal.now) _ (written (goal.at.finish_packet-requires c).In_ok-put_refusal)

pub returns : goal.returns
returns c =
    let h = reply_header c.args.call.now ERROR in
    let payload = refusal_payload c.args.refusal.now in
    let e = written (goal.at.returns c).In_ok-put_refusal in
    let words = subst HasWords c.reply_words.ensures c.in_ok-writer.ensures.words in
    let packet = is_packet h payload _ c.finish_packet.result words (reply_kind c.args.call.now ERROR (omega arith)) e c.finish_packet.ensures in
    record {
      bytes = packet_bytes h payload _ c.finish_packet.result e c.finish_packet.ensures;
      packet = packet;
      err = too_big h payload _ c.finish_packet.result e c.finish_packet.ensures;
      reads_back = error_back h c.args.refusal.now c.finish_packet.result c.in_ok-put_refusal.ensures.text packet;
    }

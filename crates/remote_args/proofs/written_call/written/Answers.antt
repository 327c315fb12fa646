use Rattle.std.proofs.Common.{◌≡◌, ◌++◌, List, ℕ, ap, subst, ◌∙◌}
use Rattle.wire_spec.specs.Packets.{header}
use Rattle.wire_spec.specs.Xdr.{word}
use Rattle.packet.specs.Writing.{HasWords}
use Rattle.packet.proofs.Written.{is_packet, long_enough, packet_bytes, too_big}
use Rattle.procedure_spec.specs.Arguments.{arguments}
use Rattle.procedure_spec.specs.Calls.{call_header}
use Rattle.procedure_spec.specs.Lines.{line}
use Rattle.procedure_spec.specs.Requests.{procedure_of}
use Rattle.remote_args.proofs.Written.{call_kind}
use Rattle.remote_args.proofs.written_call.written.Goals as goal
use Rattle.remote_args.proofs.written_call.written.Goals.{In_ok-put_request}

written : (c : In_ok-put_request) → c.put_request.new.writer ≡ (word 0 ++ header (call_header (line (procedure_of c.args.request.now)) c.args.serial)) ++ arguments c.args.request.now
written c = c.in_ok-put_request.ensures ∙ ap (λ (t : List ℕ). t ++ arguments c.args.request.now) (c.in_ok-writer.ensures.written ∙ ap (λ h. word 0 ++ header h) c.call_header.ensures)

pub finish_packet-requires : goal.finish_packet-requires
finish_packet-requires c = long_enough (call_header (line (procedure_of c.args.request.now)) c.args.serial) (arguments c.args.request.now) _ (written (goal.at.finish_packet-requires c).In_ok-put_request)

pub returns : goal.returns
returns c =
    let row = line (procedure_of c.args.request.now) in
    let h = call_header row c.args.serial in
    let e = written (goal.at.returns c).In_ok-put_request in
    let words = subst HasWords c.call_header.ensures c.in_ok-writer.ensures.words in
    record {
      bytes = packet_bytes h (arguments c.args.request.now) _ c.finish_packet.result e c.finish_packet.ensures;
      packet = is_packet h (arguments c.args.request.now) _ c.finish_packet.result words (call_kind row c.args.serial) e c.finish_packet.ensures;
      err = too_big h (arguments c.args.request.now) _ c.finish_packet.result e c.finish_packet.ensures;
    }

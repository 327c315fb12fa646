use Rattle.std.proofs.Common.{◌≡◌, ◌++◌, List, ℕ, ap, subst, ◌∙◌}
use Rattle.virt_types.specs.declared.value.Note.{Note}
use Rattle.virt_types.specs.declared.value.Note.TheVariants as note
use Rattle.wire_spec.specs.Packets.{IsPacket, header}
use Rattle.wire_spec.specs.Xdr.{word}
use Rattle.packet.specs.Writing.{HasWords}
use Rattle.packet.proofs.Written.{is_packet, long_enough, packet_bytes, too_big}
use Rattle.procedure_spec.specs.Events.{note_header, note_items, note_packet}
use Rattle.procedure_spec.specs.EventsReading.{IsReadBack}
use Rattle.procedure_spec.proofs.EventParts.{note_back}
use Rattle.procedure_spec.specs.declared.words.TheConstants.{EVENT}
use Rattle.remote_args.proofs.Written.{note_kind, on_ok}
use Rattle.remote_args.proofs.event.write_event.Goals as goal
use Rattle.remote_args.proofs.event.write_event.Goals.{In_ok-put_event}

written : (c : In_ok-put_event) → c.put_event.new.writer ≡ (word 0 ++ header (note_header EVENT)) ++ note_items (note.Event c.args.name.now c.args.uuid.now c.args.transition)
written c = c.in_ok-put_event.ensures.written ∙ ap (λ (t : List ℕ). t ++ note_items (note.Event c.args.name.now c.args.uuid.now c.args.transition)) (c.in_ok-writer.ensures.written ∙ ap (λ h. word 0 ++ header h) c.message.ensures)

pub finish_packet-requires : goal.finish_packet-requires
finish_packet-requires c = long_enough (note_header EVENT) (note_items (note.Event c.args.name.now c.args.uuid.now c.args.transition)) _ (written (goal.at.finish_packet-requires c).In_ok-put_event)

pub returns : goal.returns
returns c =
    let n : Note = note.Event c.args.name.now c.args.uuid.now c.args.transition in
    let h = note_header EVENT in
    let e = written (goal.at.returns c).In_ok-put_event in
    let words = subst HasWords c.message.ensures c.in_ok-writer.ensures.words in
    let packet = is_packet h (note_items n) _ c.finish_packet.result words (note_kind EVENT) e c.finish_packet.ensures in
    record {
      bytes = packet_bytes h (note_items n) _ c.finish_packet.result e c.finish_packet.ensures;
      packet = packet;
      err = too_big h (note_items n) _ c.finish_packet.result e c.finish_packet.ensures;
      reads_back = on_ok c.finish_packet.result (IsPacket (note_packet n)) (IsReadBack n) packet (λ p. note_back n c.in_ok-put_event.ensures.items);
    }

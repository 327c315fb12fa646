use Rattle.std.proofs.Common.{arith}
use Rattle.procedure_spec.specs.Events.{IsNote}
use Rattle.procedure_spec.specs.EventsReading.{note_of}
use Rattle.procedure_spec.proofs.EventParts.{note_again, note_found}
use Rattle.procedure_spec.proofs.Found.{found_by, only_by}
use Rattle.remote_args.proofs.event_reader.read_event.Goals as goal

pub returns : goal.returns
returns c =
    let header = c.args.header.now in
    let payload = c.args.payload.now in
    record {
      found = found_by (IsNote header payload) (note_of header payload) c.note.result (λ n e. note_found header payload n (λ i. omega (arith, c.type_inv.payload i)) e) c.note.ensures;
      only = only_by (IsNote header payload) (note_of header payload) c.note.result (note_again header payload) c.note.ensures;
      fault = c.note.ensures;
    }

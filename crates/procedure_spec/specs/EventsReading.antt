-- Reading the two messages: the note, or the first fault in the order program, version, number, payload.
use Rattle.std.specs.Prelude.{◌≡◌, ◌==◌, ℕ, List, Option, None, Some, Result, Ok, Err, if◌then◌else◌}
use Rattle.virt_types.specs.declared.value.Note.{Note}
use Rattle.virt_types.specs.declared.value.Note.TheVariants as note
use Rattle.wire_spec.specs.XdrReading.{Left, first_fixed, first_word}
use Rattle.wire_spec.specs.declared.message.Header.{Header}
use Rattle.procedure_spec.specs.Events.{note_header, note_items, note_number}
use Rattle.procedure_spec.specs.Reading.{◌>>=◌, all, item}
use Rattle.procedure_spec.specs.ResultItemsReading.{first_name, meant}
use Rattle.procedure_spec.specs.declared.fault.ArgFault.{ArgFault}
use Rattle.procedure_spec.specs.declared.fault.ArgFault.TheVariants as fault
use Rattle.procedure_spec.specs.declared.table.TheConstants.{OWN}
use Rattle.procedure_spec.specs.declared.words.TheConstants.{EVENT, EVENT_LOST, VERSION}

-- the number of the domain's live boot, which is always -1: the word of four bytes 255
abbrev pub no_number : ℕ → Option (Unit {0})
no_number number = if number == 0xffffffff then Some tt else None

unfoldable pub first_no_number : Left → Result (Unit {0} × Left) ArgFault
first_no_number l = do
  number ← item first_word l
  meant l.place (no_number number.0) number.1

unfoldable pub first_event : Left → Result (Note × Left) ArgFault
first_event l = do
  name ← first_name l
  uuid ← item (first_fixed 16) name.1
  number ← first_no_number uuid.1
  event ← item first_word number.1
  detail ← item first_word event.1
  Ok (note.Event name.0 uuid.0 (record { event = event.0; detail = detail.0 }), detail.1)

unfoldable pub first_lost : Left → Result (Note × Left) ArgFault
first_lost l = do
  name ← first_name l
  uuid ← item (first_fixed 16) name.1
  number ← first_no_number uuid.1
  Ok (note.Lost name.0 uuid.0, number.1)

-- which message a header is of
abbrev pub note_in : ℕ → List ℕ → Result Note ArgFault
note_in number payload = if number == EVENT then all first_event payload else (if number == EVENT_LOST then all first_lost payload else Err fault.Procedure)

unfoldable pub note_of : Header → List ℕ → Result Note ArgFault
note_of h payload = if h.prog == OWN then (if h.vers == VERSION then note_in h.procedure payload else Err fault.Version) else Err fault.Program

-- the message of this note is read as it
abbrev pub IsReadBack : Note → Type 0
IsReadBack n = note_of (note_header (note_number n)) (note_items n) ≡ Ok n

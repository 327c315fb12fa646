-- The two messages of this project's own program: that something came about in a domain, and that such events were lost.
use Rattle.std.specs.Prelude.{◌≡◌, ℕ, negsuc, List, ◌++◌}
use Rattle.virt_types.specs.declared.value.Note.{Note}
use Rattle.virt_types.specs.declared.value.Note.TheVariants as note
use Rattle.wire_spec.specs.Xdr.{IsWord, fixed, integer, opaque, word}
use Rattle.wire_spec.specs.declared.message.Header.{Header}
use Rattle.wire_spec.specs.declared.message.Packet.{Packet}
use Rattle.wire_spec.specs.declared.message.TheConstants.{MESSAGE, OK}
use Rattle.procedure_spec.specs.ResultItems.{IsObjectReference}
use Rattle.procedure_spec.specs.declared.table.TheConstants.{OWN}
use Rattle.procedure_spec.specs.declared.words.TheConstants.{EVENT, EVENT_LOST, VERSION}

-- the domain of a message: its name, its identifier, and always -1
abbrev pub noted : List ℕ → List ℕ → List ℕ
noted name uuid = opaque name ++ fixed uuid ++ integer (negsuc 0)

abbrev pub note_items : Note → List ℕ
note_items (note.Event name uuid t) = noted name uuid ++ word t.event ++ word t.detail
note_items (note.Lost name uuid) = noted name uuid

abbrev pub note_number : Note → ℕ
note_number (note.Event name uuid t) = EVENT
note_number (note.Lost name uuid) = EVENT_LOST

-- the note has a spelling
abbrev pub HasItems : Note → Type 0
HasItems (note.Event name uuid t) = IsObjectReference name uuid × IsWord t.event × IsWord t.detail
HasItems (note.Lost name uuid) = IsObjectReference name uuid

-- the header of a message that nobody asked for: serial and status are 0
abbrev pub note_header : ℕ → Header
note_header number = record { prog = OWN; vers = VERSION; procedure = number; kind = MESSAGE; serial = 0; status = OK }

abbrev pub note_packet : Note → Packet
note_packet n = record { header = note_header (note_number n); payload = note_items n }

-- the packet is the message of this note
pub record IsNote (h : Header) (payload : List ℕ) (n : Note) : Type 0 where
  pub program : h.prog ≡ OWN
  pub version : h.vers ≡ VERSION
  pub number : h.procedure ≡ note_number n
  pub items : HasItems n
  pub spelled : payload ≡ note_items n

-- Packets as bytes: a length word, six words and a payload (libvirt, src/rpc/virnetprotocol.x; the upper bound is this project's own).
use Rattle.std.specs.Prelude.{◌≡◌, ◌==◌, ℕ, ◌+◌, ◌^◌, ◌<◌, ◌≤◌, ◌&&◌, ◌||◌, nat_lt, List, ◌++◌, length, take, drop, Option, Some, None, if◌then◌else◌}
use Rattle.std.specs.Int.{w32, from_be_bytes}
use Rattle.wire_spec.specs.Xdr.{word}
use Rattle.wire_spec.specs.declared.fault.BadPacket.{BadPacket}
use Rattle.wire_spec.specs.declared.fault.BadPacket.TheVariants.{LengthLow, LengthHigh, Kind, Status}
use Rattle.wire_spec.specs.declared.message.Header.{Header}
use Rattle.wire_spec.specs.declared.message.TheConstants.{CALL, CONTINUE, HEADER_LENGTH, MESSAGE, MOST_BYTES, OK}
use Rattle.wire_spec.specs.declared.message.Packet.{Packet}

-- the six words after the length
abbrev pub header : Header → List ℕ
header h = word h.prog ++ word h.vers ++ word h.procedure ++ word h.kind ++ word h.serial ++ word h.status

-- the one spelling of a packet; its length counts the length word too
abbrev pub spelling : Packet → List ℕ
spelling p = word (HEADER_LENGTH + length p.payload) ++ header p.header ++ p.payload

-- a kind and a status that a packet may have: a call has no status
pub record HasKind (h : Header) : Type 0 where
  pub kind : h.kind ≤ MESSAGE
  pub status : h.status ≤ CONTINUE
  pub call : h.kind ≡ CALL → h.status ≡ OK

-- six words that a packet may have
pub record IsHeader (h : Header) : Type 0 where
  pub prog : h.prog < 2 ^ 32
  pub vers : h.vers < 2 ^ 32
  pub procedure : h.procedure < 2 ^ 32
  pub serial : h.serial < 2 ^ 32
  pub allowed : HasKind h

-- a packet that is not too long
pub record IsPacket (p : Packet) : Type 0 where
  pub header : IsHeader p.header
  pub length : HEADER_LENGTH + length p.payload ≤ MOST_BYTES

-- the word at a place
abbrev pub word_at : ℕ → List ℕ → ℕ
word_at i bytes = from_be_bytes w32 (take 4 (drop i bytes))

-- no packet begins with these bytes, whatever follows: the first word that shows it, as soon as it is there
abbrev pub status_fault : ℕ → ℕ → Option BadPacket
status_fault kind status = if nat_lt CONTINUE status || ((kind == CALL) && nat_lt OK status) then Some (Status status) else None

abbrev pub kind_fault : List ℕ → ℕ → Option BadPacket
kind_fault bytes kind = if nat_lt MESSAGE kind then Some (Kind kind) else (if nat_lt (length bytes) HEADER_LENGTH then None else status_fault kind (word_at 24 bytes))

abbrev pub length_fault : List ℕ → ℕ → Option BadPacket
length_fault bytes l = if nat_lt l HEADER_LENGTH then Some (LengthLow l) else (if nat_lt MOST_BYTES l then Some (LengthHigh l) else (if nat_lt (length bytes) 20 then None else kind_fault bytes (word_at 16 bytes)))

abbrev pub fault : List ℕ → Option BadPacket
fault bytes = if nat_lt (length bytes) 4 then None else length_fault bytes (word_at 0 bytes)

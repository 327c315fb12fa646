-- Laws of streams, over all bytes: each is on a function of `src/laws.rt`.
use Rattle.std.specs.Prelude.{◌≡◌, ℕ, List, [], ◌∷◌, ◌++◌, None, Some}
use Rattle.std.specs.List.{AllByRecursion}
use Rattle.wire_spec.specs.Packets.{IsPacket, fault, spelling}
use Rattle.wire_spec.specs.Split.{Splits, stream}
use Rattle.wire_spec.specs.declared.fault.BadPacket.{BadPacket}
use Rattle.wire_spec.specs.declared.message.Packet.{Packet}
use Rattle.packet.specs.Feeding.{Held, nothing}
use Rattle.packet.specs.Runs.{Run, Step, bytes_fed, packets_given}

-- bytes are packets and a rest in one way
abbrev pub SplitsOneWay : Type 0
SplitsOneWay = (bytes : List ℕ) (ps qs : List Packet) (x y : List ℕ) → Splits bytes ps x → Splits bytes qs y → (ps ≡ qs) × (x ≡ y)

-- after any run: the packets given, those that wait and the rest are those of all bytes fed
abbrev pub SplitsHoweverCut : Type 0
SplitsHoweverCut = (steps : List Step) (held : Held) → Run steps nothing held → Splits (bytes_fed steps) (packets_given steps ++ held.ready) held.rest

-- the packets `ps` are those of `qs` and others, which begin with the rest `y` of these and what follows it
pub record Adds (ps qs : List Packet) (x y more : List ℕ) : Type 0 where
  pub others : List Packet
  pub packets : ps ≡ qs ++ others
  pub bytes : y ++ more ≡ stream others x

-- more bytes only add packets
abbrev pub MoreBytesAdd : Type 0
MoreBytesAdd = (bytes more : List ℕ) (ps qs : List Packet) (x y : List ℕ) → Splits (bytes ++ more) ps x → Splits bytes qs y → Adds ps qs x y more

-- packets and nothing else are split into these packets, and nothing is left
abbrev pub WholePacketsLeaveNothing : Type 0
WholePacketsLeaveNothing = (ps qs : List Packet) (x : List ℕ) → AllByRecursion IsPacket ps → Splits (stream ps []) qs x → (qs ≡ ps) × (x ≡ [])

-- where no fault shows in the end, none shows before
abbrev pub SoundBefore : Type 0
SoundBefore = (bytes more : List ℕ) (ps qs : List Packet) (x y : List ℕ) → Splits (bytes ++ more) ps x → Splits bytes qs y → fault x ≡ None → fault y ≡ None

-- no packet begins with bytes that have a fault
abbrev pub NoPacketBeginsSo : Type 0
NoPacketBeginsSo = (bytes more tail : List ℕ) (bad : BadPacket) (p : Packet) → fault bytes ≡ Some bad → IsPacket p → bytes ++ more ≡ spelling p ++ tail → ⊥

-- a packet's spelling is read as that packet, whatever follows it
abbrev pub ReadsAgain : Type 0
ReadsAgain = (p : Packet) (tail : List ℕ) (ps : List Packet) (x : List ℕ) → IsPacket p → Splits tail ps x → Splits (spelling p ++ tail) (p ∷ ps) x

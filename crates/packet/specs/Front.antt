-- What was found at the front of some bytes. No public clause cites this.
use Rattle.std.specs.Prelude.{◌≡◌, ℕ, ◌≤◌, ◌<◌, List, ◌++◌, length, drop, None, Some}
use Rattle.wire_spec.specs.declared.message.Header.{Header}
use Rattle.wire_spec.specs.declared.message.Packet.{Packet}
use Rattle.wire_spec.specs.Packets.{IsPacket, fault, spelling, word_at}
use Rattle.wire_spec.specs.Split.{IsRest}
use Rattle.packet.specs.declared.head.Front.{Front}
use Rattle.packet.specs.declared.head.Front.TheVariants.{Part, Bad, Whole}

-- the six words after the length
abbrev pub header_at : List ℕ → Header
header_at bytes = record { prog = word_at 4 bytes; vers = word_at 8 bytes; procedure = word_at 12 bytes; kind = word_at 16 bytes; serial = word_at 20 bytes; status = word_at 24 bytes }

-- the bytes are the packet, and those from the place n on
abbrev pub StandsAt : List ℕ → ℕ → Packet → Type 0
StandsAt bytes n packet = IsPacket packet × (bytes ≡ spelling packet ++ drop n bytes)

abbrev pub Begins : List ℕ → Front → Type 0
Begins bytes Part = IsRest bytes × (fault bytes ≡ None)
Begins bytes (Bad bad) = IsRest bytes × (fault bytes ≡ Some bad)
Begins bytes (Whole packet n) = IsPacket packet × (n ≤ length bytes) × (0 < n) × (bytes ≡ spelling packet ++ drop n bytes)

-- A stream of bytes as packets and a rest that is no whole packet.
use Rattle.std.specs.Prelude.{◌≡◌, ℕ, ◌<◌, ◌⊎◌, List, ◌++◌, length, IsSome, is_some, if◌then◌else◌}
use Rattle.std.specs.List.{flat_map, AllByRecursion}
use Rattle.wire_spec.specs.Packets.{IsPacket, fault, spelling, word_at}
use Rattle.wire_spec.specs.declared.message.Packet.{Packet}

-- no whole packet is at the front: bytes are missing, or no packet begins so
abbrev pub IsRest : List ℕ → Type 0
IsRest bytes = (length bytes < 4) ⊎ ((length bytes < word_at 0 bytes) ⊎ IsSome (fault bytes))

-- the packets, one after the other, and then the rest
abbrev pub stream : List Packet → List ℕ → List ℕ
stream packets rest = flat_map spelling packets ++ rest

-- the bytes are these packets and this rest
pub record Splits (bytes : List ℕ) (packets : List Packet) (rest : List ℕ) : Type 0 where
  pub whole : bytes ≡ stream packets rest
  pub each : AllByRecursion IsPacket packets
  pub part : IsRest rest

-- how many bytes there are of a packet that has begun: none where no packet begins so
abbrev pub begun : List ℕ → ℕ
begun rest = if is_some (fault rest) then 0 else length rest

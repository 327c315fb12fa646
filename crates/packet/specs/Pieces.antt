-- What the work on the bytes that a feed holds comes to. No public clause cites this.
use Rattle.std.specs.Prelude.{◌≡◌, ℕ, ◌≤◌, List, ◌++◌, length, drop, Option}
use Rattle.std.specs.List.{AllByRecursion}
use Rattle.wire_spec.specs.declared.fault.BadPacket.{BadPacket}
use Rattle.wire_spec.specs.declared.message.Packet.{Packet}
use Rattle.wire_spec.specs.Packets.{IsPacket, fault}
use Rattle.wire_spec.specs.Split.{IsRest, stream}

-- whole packets of the bytes come after those that were ready; from the place `used` on there is no whole one
pub record Decodes (ready : List Packet) (bytes : List ℕ) (now : List Packet) (used : ℕ) (bad : Option BadPacket) : Type 0 where
  pub whole : stream now (drop used bytes) ≡ stream ready bytes
  pub each : AllByRecursion IsPacket ready → AllByRecursion IsPacket now
  pub within : used ≤ length bytes
  pub part : IsRest (drop used bytes)
  pub bad_is : bad ≡ fault (drop used bytes)

-- the piece was put after the bytes, and each packet that is whole now after those that were ready
pub record TakesPiece (ready : List Packet) (rest piece : List ℕ) (now : List Packet) (left : List ℕ) (bad : Option BadPacket) : Type 0 where
  pub whole : stream now left ≡ stream ready rest ++ piece
  pub each : AllByRecursion IsPacket ready → AllByRecursion IsPacket now
  pub part : IsRest left
  pub bad_is : bad ≡ fault left

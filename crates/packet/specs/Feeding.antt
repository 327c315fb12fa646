-- What a feed holds of a stream, and what a piece changes.
use Rattle.std.specs.Prelude.{◌≡◌, ℕ, List, [], ◌++◌, Option, None, Some, MatchOption}
use Rattle.std.specs.List.{AllByRecursion}
use Rattle.types_base.specs.declared.memory.OrNoMemory.{OrNoMemory}
use Rattle.types_base.specs.declared.memory.OrNoMemory.TheVariants.{Fault, NoMemory}
use Rattle.wire_spec.specs.declared.fault.BadPacket.{BadPacket}
use Rattle.wire_spec.specs.declared.message.Packet.{Packet}
use Rattle.wire_spec.specs.Packets.{IsPacket, fault}
use Rattle.wire_spec.specs.Split.{IsRest, stream}

-- whole packets that wait, and the bytes after them
pub record Held : Type 0 where
  pub ready : List Packet
  pub rest : List ℕ

-- before the first piece
abbrev pub nothing : Held
nothing = record { ready = []; rest = [] }

-- the packets are such, and the bytes after them begin with no whole one
pub record IsSplit (held : Held) : Type 0 where
  pub each : AllByRecursion IsPacket held.ready
  pub part : IsRest held.rest

abbrev pub bytes_of : Held → List ℕ
bytes_of held = stream held.ready held.rest

-- the piece was put after what was held
abbrev pub Grows : Held → List ℕ → Held → Type 0
Grows old piece new = bytes_of new ≡ bytes_of old ++ piece

-- after an error. The piece that shows the first fault was taken, and no later one is
abbrev pub Refuses : Held → List ℕ → Held → OrNoMemory BadPacket → Type 0
Refuses old piece new (Fault bad) = (fault new.rest ≡ Some bad) × MatchOption (fault old.rest) (Grows old piece new) (λ _. new ≡ old)
Refuses old piece new NoMemory = (fault old.rest ≡ None) × (new ≡ old)

-- what a feed keeps: the first fault of the bytes is remembered
pub record Kept (ready : List Packet) (rest : List ℕ) (bad : Option BadPacket) : Type 0 where
  pub each : AllByRecursion IsPacket ready
  pub part : IsRest rest
  pub bad_is : bad ≡ fault rest

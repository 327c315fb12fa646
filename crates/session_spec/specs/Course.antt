-- What the end of a session says of the bytes that it took and of the packets that it served.
use Rattle.std.specs.Prelude.{◌≡◌, ℕ, ◌^◌, ◌<◌, ◌⊎◌, true, false, List, [], ◌∷◌, ◌++◌, length, Option, None, Some}
use Rattle.std.specs.List.{AllByRecursion, list_any}
use Rattle.std.specs.Io.KnownBytes.{IsAtEnd}
use Rattle.session_spec.specs.Replies.{closes}
use Rattle.session_spec.specs.declared.end.End.{End}
use Rattle.session_spec.specs.declared.end.End.TheVariants.{Closed, Eof, NoMemory}
use Rattle.wire_spec.specs.Packets.{IsPacket, fault}
use Rattle.wire_spec.specs.Split.{IsRest, stream}
use Rattle.wire_spec.specs.declared.message.Packet.{Packet}

-- the input is over: nothing is left of it, or 2^62 bytes of it were taken
abbrev pub IsOver : Option (List ℕ) → List ℕ → Type 0
IsOver left taken = IsAtEnd left ⊎ (length taken ≡ 2 ^ 62)

-- some bytes of a packet came, and no fault is in them
pub record IsBegun (rest : List ℕ) : Type 0 where
  pub some : 0 < length rest
  pub part : IsRest rest
  pub sound : fault rest ≡ None

-- none of these packets closes the session
abbrev pub StaysOpen : List Packet → Type 0
StaysOpen packets = AllByRecursion (λ p. closes p ≡ false) packets

-- the last of these packets, and no other, closes it
pub record IsClosed (packets : List Packet) : Type 0 where
  pub front : List Packet
  pub close : Packet
  pub parts : packets ≡ front ++ close ∷ []
  pub stays_open : StaysOpen front
  pub is_close : closes close ≡ true

-- what an end says of the packets that were answered
abbrev pub HasEnd : End → List Packet → Type 0
HasEnd Closed packets = IsClosed packets
HasEnd _ packets = StaysOpen packets

-- the bytes are reported, fewer than a session takes: whole packets and no more, or whole packets of which
-- one closes the session, and any bytes after them
abbrev pub IsWhole : Option (List ℕ) → Type 0
IsWhole None = ⊥
IsWhole (Some bytes) = (packets : List Packet) × (rest : List ℕ) × AllByRecursion IsPacket packets × (bytes ≡ stream packets rest)
    × ((rest ≡ []) ⊎ (list_any closes packets ≡ true)) × (length bytes < 2 ^ 62)

-- the input was served to its end, or to a close, unless memory ran out
abbrev pub IsServedWhole : End → Type 0
IsServedWhole end = (end ≡ Eof) ⊎ ((end ≡ Closed) ⊎ (end ≡ NoMemory))

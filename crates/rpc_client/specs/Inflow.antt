-- What a client took of its source: packets in order, of which it keeps the events.
use Rattle.std.specs.Prelude.{◌≡◌, ◌+◌, ◌^◌, ◌⊎◌, ℕ, Bool, false, true, List, [], ◌∷◌, ◌++◌, length, Option, None, Some}
use Rattle.std.specs.Io.KnownBytes.{Consumes, IsAtEnd}
use Rattle.std.specs.List.{AllByRecursion, filter}
use Rattle.outside_spec.specs.Faults.{Rose}
use Rattle.virt_types.specs.Below.types_base.declared.memory.OrNoMemory.{OrNoMemory}
use Rattle.virt_types.specs.Below.types_base.declared.memory.OrNoMemory.TheVariants.{Fault, NoMemory}
use Rattle.wire_spec.specs.Packets.{IsPacket, fault}
use Rattle.wire_spec.specs.Split.{stream}
use Rattle.wire_spec.specs.declared.message.Packet.{Packet}
use Rattle.rpc_client.specs.Messages.{is_event, is_reply}
use Rattle.rpc_client.specs.declared.fault.ClientFault.{ClientFault}
use Rattle.rpc_client.specs.declared.fault.ClientFault.TheVariants.{BadPacket, End, Link, WrongSerial}

-- a source, the whole packets that were taken of it and not looked at, the bytes after them, how many bytes were
-- taken in all, and the events that were met, the oldest first
pub record Inflow (S : Type 0) : Type 0 where
  pub source : S
  pub ready : List Packet
  pub rest : List ℕ
  pub taken : ℕ
  pub events : List Packet

-- there are some
abbrev pub is_there : List Packet → Bool
is_there [] = false
is_there (event ∷ events) = true

-- the bytes that were taken and not looked at
abbrev pub unread : {S : Type 0} → Inflow S → List ℕ
unread flow = stream flow.ready flow.rest

module _ {S : Type 0} (left : S → Option (List ℕ)) (faults : S → ℕ) where
  -- these packets, and no more, were looked at: they are before what is unread now in the bytes that were
  -- unread and those that were taken meanwhile
  pub record Passes (old new : Inflow S) (packets : List Packet) : Type 0 where
    pub bytes : List ℕ
    pub consumed : Consumes (left old.source) (left new.source) bytes
    pub count : new.taken ≡ old.taken + length bytes
    pub parts : unread old ++ bytes ≡ stream packets (unread new)
    pub each : AllByRecursion IsPacket packets

  -- no reply is among them, and the events among them are kept
  pub record Hears (old new : Inflow S) (packets : List Packet) : Type 0 where
    pub passes : Passes old new packets
    pub no_reply : AllByRecursion (λ p. is_reply p.header ≡ false) packets
    pub events : new.events ≡ old.events ++ filter (λ p. is_event p.header) packets

  -- why no further packet comes
  abbrev pub IsOver : Inflow S → Inflow S → ClientFault → Type 0
  IsOver old new Link = Rose (faults old.source) (faults new.source)
  IsOver old new (BadPacket bad) = (new.ready ≡ []) × (fault new.rest ≡ Some bad)
  IsOver old new End = (new.ready ≡ []) × (fault new.rest ≡ None) × (IsAtEnd (left new.source) ⊎ (new.taken ≡ 2 ^ 62))
  IsOver old new _ = ⊥

  -- no reply came, and no further packet comes
  pub record Stops (old new : Inflow S) (why : ClientFault) : Type 0 where
    pub packets : List Packet
    pub hears : Hears old new packets
    pub over : IsOver old new why

  -- so it is, unless memory ran out
  abbrev pub StopsOrNoMemory : Inflow S → Inflow S → OrNoMemory ClientFault → Type 0
  StopsOrNoMemory old new (Fault why) = Stops old new why
  StopsOrNoMemory old new NoMemory = Unit {0}

  -- a reply came, after packets that are none
  pub record Gets (old new : Inflow S) (reply : Packet) : Type 0 where
    pub before : List Packet
    pub passes : Passes old new (before ++ reply ∷ [])
    pub is_one : is_reply reply.header ≡ true
    pub no_reply : AllByRecursion (λ p. is_reply p.header ≡ false) before
    pub events : new.events ≡ old.events ++ filter (λ p. is_event p.header) before

  -- the oldest event that was not given yet: one that was kept, or the first that comes
  pub record Gives (old new : Inflow S) (event : Packet) : Type 0 where
    pub packets : List Packet
    pub passes : Passes old new packets
    pub no_reply : AllByRecursion (λ p. is_reply p.header ≡ false) packets
    pub events : old.events ++ filter (λ p. is_event p.header) packets ≡ event ∷ new.events

  -- a reply came that no call waits for
  pub record IsStray (last : ℕ) (old new : Inflow S) (sent got : ℕ) : Type 0 where
    pub reply : Packet
    pub gets : Gets old new reply
    pub sent_is : sent ≡ last
    pub got_is : got ≡ reply.header.serial

  -- why no event was given, where the last call had this number
  abbrev pub GivesNone : ℕ → Inflow S → Inflow S → OrNoMemory ClientFault → Type 0
  GivesNone last old new (Fault (WrongSerial sent got)) = IsStray last old new sent got
  GivesNone last old new (Fault why) = Stops old new why
  GivesNone last old new NoMemory = Unit {0}

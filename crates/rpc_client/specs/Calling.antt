-- A call over a connection: what is sent, and what the reply answers.
use Rattle.std.specs.Prelude.{◌≡◌, ◌+◌, ◌-◌, ◌^◌, ◌<◌, ◌⊎◌, ℕ, true, false, List, [], ◌∷◌, ◌++◌, length, take, Option, None, Some, Result, Ok, Err}
use Rattle.std.specs.Io.KnownBytes.{Appends}
use Rattle.outside_spec.specs.Faults.{Rose}
use Rattle.virt_types.specs.Below.types_base.declared.memory.OrNoMemory.{OrNoMemory}
use Rattle.virt_types.specs.Below.types_base.declared.memory.OrNoMemory.TheVariants as or
use Rattle.virt_types.specs.declared.request.Request.{Request}
use Rattle.virt_types.specs.declared.value.Reply.{Reply}
use Rattle.wire_spec.specs.Packets.{spelling}
use Rattle.wire_spec.specs.declared.message.Packet.{Packet}
use Rattle.procedure_spec.specs.Calls.{call_packet}
use Rattle.rpc_client.specs.Answer.{Spells, answer_of}
use Rattle.rpc_client.specs.Inflow.{Gets, Inflow, Stops}
use Rattle.rpc_client.specs.declared.fault.ClientFault.{ClientFault}
use Rattle.rpc_client.specs.declared.fault.ClientFault.TheVariants.{BadPacket, BadPayload, End, Link, Spent, WrongSerial}

-- a connection: what came in, where calls go to, the number of the last call, and the fault that ended it
pub record Connection (S K : Type 0) : Type 0 where
  pub inflow : Inflow S
  pub sink : K
  pub serial : ℕ
  pub fault : Option (OrNoMemory ClientFault)

-- one over which nothing went
abbrev pub fresh : {S K : Type 0} → S → K → Connection S K
fresh source sink = record { inflow = record { source = source; ready = []; rest = []; taken = 0; events = [] }; sink = sink; serial = 0; fault = None }

-- the fault that a result leaves
abbrev pub fault_of : {A : Type 0} → Result A (OrNoMemory ClientFault) → Option (OrNoMemory ClientFault)
fault_of (Ok value) = None
fault_of (Err e) = Some e

-- calls have numbers from 1 up to this one
abbrev pub last_serial : ℕ
last_serial = 2 ^ 32 - 1

-- the packet that asks the request has the next number
pub record IsNext (asked : Request) (before now : ℕ) (call : Packet) : Type 0 where
  pub serial : now ≡ before + 1
  pub call_is : call ≡ call_packet asked now

module _ {S K : Type 0} (left : S → Option (List ℕ)) (source_faults : S → ℕ) (held : K → Option (List ℕ)) (sink_faults : K → ℕ) where
  -- the call was put whole
  pub record Sends (asked : Request) (old new : Connection S K) (call : Packet) : Type 0 where
    pub next : IsNext asked old.serial new.serial call
    pub put : Appends (held old.sink) (held new.sink) (spelling call)

  -- a front of the call was put, and then the sink failed
  pub record IsCut (asked : Request) (old new : Connection S K) : Type 0 where
    pub call : Packet
    pub next : IsNext asked old.serial new.serial call
    pub count : ℕ
    pub put : Appends (held old.sink) (held new.sink) (take count (spelling call))
    pub cut : count < length (spelling call)
    pub rose : Rose (sink_faults old.sink) (sink_faults new.sink)

  -- the call was put, and a reply came: the first one after what was unread before the call
  pub record HasReply (asked : Request) (old new : Connection S K) (call reply : Packet) : Type 0 where
    pub sends : Sends asked old new call
    pub gets : Gets left source_faults old.inflow new.inflow reply

  -- the call was answered by its reply
  pub record Answers (asked : Request) (old new : Connection S K) (answer : Reply) : Type 0 where
    pub call : Packet
    pub reply : Packet
    pub has : HasReply asked old new call reply
    pub answer_is : answer_of asked call.header reply ≡ Ok answer
    pub spelled : Spells asked reply.payload answer

  -- the reply is none to the call
  pub record Misses (asked : Request) (old new : Connection S K) (why : ClientFault) : Type 0 where
    pub call : Packet
    pub reply : Packet
    pub has : HasReply asked old new call reply
    pub fault_is : answer_of asked call.header reply ≡ Err why

  -- the call was put, and no reply came
  pub record GetsNone (asked : Request) (old new : Connection S K) (why : ClientFault) : Type 0 where
    pub call : Packet
    pub sends : Sends asked old new call
    pub stops : Stops left source_faults old.inflow new.inflow why

  -- nothing was done, since all numbers were used
  pub record HasSpent (old new : Connection S K) : Type 0 where
    pub last : old.serial ≡ last_serial
    pub inflow : new.inflow ≡ old.inflow
    pub sink : new.sink ≡ old.sink

  -- why a call was not answered
  abbrev pub Fails : Request → Connection S K → Connection S K → ClientFault → Type 0
  Fails asked old new Link = GetsNone asked old new Link ⊎ IsCut asked old new
  Fails asked old new (BadPacket bad) = GetsNone asked old new (BadPacket bad)
  Fails asked old new End = GetsNone asked old new End
  Fails asked old new BadPayload = Misses asked old new BadPayload
  Fails asked old new (WrongSerial sent got) = Misses asked old new (WrongSerial sent got)
  Fails asked old new Spent = HasSpent old new

  -- so it is, unless memory ran out
  abbrev pub FailsOrNoMemory : Request → Connection S K → Connection S K → OrNoMemory ClientFault → Type 0
  FailsOrNoMemory asked old new (or.Fault why) = Fails asked old new why
  FailsOrNoMemory asked old new or.NoMemory = Unit {0}

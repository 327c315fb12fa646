-- The two ends of a client's connection, as its steps leave them. No public clause cites this.
use Rattle.std.specs.Prelude.{◌≡◌, ℕ, List, Option, None}
use Rattle.virt_types.specs.Below.types_base.declared.memory.OrNoMemory.{OrNoMemory}
use Rattle.virt_types.specs.Below.types_base.declared.memory.OrNoMemory.TheVariants as or
use Rattle.virt_types.specs.declared.request.Request.{Request}
use Rattle.wire_spec.specs.declared.message.Header.{Header}
use Rattle.wire_spec.specs.declared.message.Packet.{Packet}
use Rattle.rpc_client.specs.Calling.{Connection, HasSpent, IsCut, Sends}
use Rattle.rpc_client.specs.Inlets.{Stands, seen}
use Rattle.rpc_client.specs.declared.ends.Ends.{Ends}
use Rattle.rpc_client.specs.declared.fault.ClientFault.{ClientFault}
use Rattle.rpc_client.specs.declared.fault.ClientFault.TheVariants.{Link, Spent}

-- the connection with these ends
abbrev pub linked : {S K : Type 0} → Ends S K → Option (OrNoMemory ClientFault) → Connection S K
linked e fault = record { inflow = seen e.inlet; sink = e.sink; serial = e.serial; fault = fault }

-- one whose ends may still be used
abbrev pub used : {S K : Type 0} → Ends S K → Connection S K
used e = linked e None

-- unless a fault ended it, its inlet stands
pub record IsKept {S K : Type 0} (e : Ends S K) (fault : Option (OrNoMemory ClientFault)) : Type 0 where
  pub stands : fault ≡ None → Stands e.inlet

module _ {S K : Type 0} (left : S → Option (List ℕ)) (source_faults : S → ℕ) (held : K → Option (List ℕ)) (sink_faults : K → ℕ) where
  -- a call with this header was put
  pub record Puts (asked : Request) (old new : Connection S K) (header : Header) : Type 0 where
    pub call : Packet
    pub header_is : call.header ≡ header
    pub sends : Sends left source_faults held sink_faults asked old new call
    pub inflow : new.inflow ≡ old.inflow

  -- none was put, or a part of one
  abbrev pub PutsNone : Request → Connection S K → Connection S K → OrNoMemory ClientFault → Type 0
  PutsNone asked old new (or.Fault Spent) = HasSpent left source_faults held sink_faults old new
  PutsNone asked old new (or.Fault Link) = IsCut left source_faults held sink_faults asked old new
  PutsNone asked old new (or.Fault other) = ⊥
  PutsNone asked old new or.NoMemory = Unit {0}
